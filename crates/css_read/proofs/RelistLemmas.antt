-- A rule without some of its selectors: what is cut, and how the rest is read.
use Rattle.std.proofs.Common.{◌≡◌, ℕ, zero, suc, ◌+◌, ◌≤◌, ◌<◌, Bool, true, false, if◌then◌else◌, nat_lt, List, [], ◌∷◌, ◌++◌, length, map, refl, sym, ap, ◌∙◌, subst, arith, length-append, append_assoc, append-nil}
use Rattle.std.proofs.lemmas.List.{append_cancel_right}
use Rattle.css_read.specs.declared.brackets.Bracket.{Bracket}
use Rattle.css_read.specs.declared.fronts.Front.{Front}
use Rattle.css_read.specs.declared.fronts.Front.TheVariants.{Passed, Opens, Closes, Styles}
use Rattle.css_read.specs.declared.sheets.Range.{Range}
use Rattle.css_read.specs.Pieces.{pieces, more_pieces}
use Rattle.css_read.specs.Holders.{steps_from}
use Rattle.css_read.specs.Pruned.{without}
use Rattle.css_read.specs.Rules.{list_ends, behind_block, next_front, depth_after}
use Rattle.css_read.specs.Units.{begins_gap, behind_unit, after_byte, stops_at}
use Rattle.css_read.proofs.CutLemmas.{IsCut, AreFrom, Spot, size_of, spots, spot_cuts, from_solid, left_solid_on, cut_list, thinned_before, without_append, kept_all, none_before, from_earlier, cuts_from, part_size}
use Rattle.css_read.proofs.FrontLemmas.{block_end}
use Rattle.css_read.proofs.ListLemmas.{IsListed, listed, BeginsList, new_rule}
use Rattle.css_read.proofs.PartLemmas.{comma, joined, IsPart, AreParts, parts_are, places, pieces_are}
use Rattle.css_read.proofs.PlanLemmas.{Plan, keep, drop_rule, drop_block, relist, fates_of, going_after, ArePlans, IsRelisted, AreTo, none_behind, IsCutBy, text_left}
use Rattle.css_read.proofs.SpanLemmas.{Span, bytes_of, IsReadBefore, AreRead, AreFair, IsStyle, IsRuleBehind, AreReadBefore, GoesOn, left_of, left_read, read_steps, steps_at}
use Rattle.css_read.proofs.ThinLemmas.{lead, solid, trail, Part, some_stay, thinned, joined_all, staying, EachPart, EachUnits, AreGaps, lead_gaps, IsThinned, thinned_list, units_split, lists_end, split, part_units, none_append, after_append}
use Rattle.css_read.proofs.UnitLemmas.{Chunk, flat, flat-append, is_gap, AreUnits, AreChunks, chunks, strings_close, units_are, units_before, has_none, brackets_after}

-- ---- the fates of plans are fair

-- lists that change are read in their place
abbrev pub AreWell : ℕ → ℕ → List Plan → List Span → Type 0
AreWell n m [] ss = Unit {0}
AreWell n m (p ∷ ps) [] = Unit {0}
AreWell n zero (keep ∷ ps) (s ∷ ss) = AreWell (depth_after n s.front) zero ps ss
AreWell n zero (drop_rule ∷ ps) (s ∷ ss) = AreWell n zero ps ss
AreWell n zero (drop_block ∷ ps) (s ∷ ss) = AreWell n 1 ps ss
AreWell n zero (relist rs ts ∷ ps) (s ∷ ss) = IsRuleBehind ts × AreReadBefore n ts (bytes_of ss) × AreWell n zero ps ss
AreWell n (suc m) (p ∷ ps) (s ∷ ss) = AreWell n (going_after (suc m) p s.front) ps ss

drop_on : (next : ℕ → ℕ → Type 0) (n : ℕ) (f : Front) → IsStyle f → next n 0 → GoesOn next n 0 f
drop_on next n (Styles len) is later = later
drop_on next n Passed is later = absurd is
drop_on next n Opens is later = absurd is
drop_on next n Closes is later = absurd is

open_on : (next : ℕ → ℕ → Type 0) (n : ℕ) (f : Front) → (f ≡ Opens) → next n 1 → GoesOn next n 0 f
open_on next n f is later = rw is later

going_on : (next : ℕ → ℕ → Type 0) (n m : ℕ) (p : Plan) (f : Front) → next n (going_after (suc m) p f) → GoesOn next n (suc m) f
going_on next n m p (Styles len) later = later
going_on next n m p Passed later = later
going_on next n m p Opens later = later
going_on next n m p Closes later = later

opening_is : (f : Front) → Rattle.css_read.proofs.PlanLemmas.IsOpening f → f ≡ Opens
opening_is Opens is = refl
opening_is Passed is = absurd is
opening_is Closes is = absurd is
opening_is (Styles len) is = absurd is

pub plans_fair : (at n m : ℕ) (ps : List Plan) (ss : List Span) → ArePlans at ps ss → AreWell n m ps ss → AreFair (fates_of m ps ss) ss n m
plans_fair at n m [] [] are well = tt
plans_fair at n m [] (s ∷ ss) are well = absurd are
plans_fair at n m (p ∷ ps) [] are well = absurd are
plans_fair at n zero (keep ∷ ps) (s ∷ ss) are well = plans_fair (at + length s.bytes) (depth_after n s.front) zero ps ss are.1 well
plans_fair at n zero (drop_rule ∷ ps) (s ∷ ss) are well = drop_on (AreFair (fates_of 0 ps ss) ss) n s.front are.0 (plans_fair (at + length s.bytes) n zero ps ss are.1 well)
plans_fair at n zero (drop_block ∷ ps) (s ∷ ss) are well = open_on (AreFair (fates_of 1 ps ss) ss) n s.front (opening_is s.front are.0) (plans_fair (at + length s.bytes) n 1 ps ss are.1 well)
plans_fair at n zero (relist rs ts ∷ ps) (s ∷ ss) are well = (are.0.0, well.0, well.1, plans_fair (at + length s.bytes) n zero ps ss are.1 well.2)
plans_fair at n (suc m) (p ∷ ps) (s ∷ ss) are well = going_on (AreFair (fates_of (going_after (suc m) p s.front) ps ss) ss) n m p s.front (plans_fair (at + length s.bytes) n (going_after (suc m) p s.front) ps ss are.1 well)

-- ---- gaps that are left where a list was

abbrev gap_spans : List Chunk → List Span
gap_spans [] = []
gap_spans (c ∷ cs) = (record { front = Passed; bytes = c.first ∷ c.more }) ∷ gap_spans cs

-- a list, or gaps and an empty list, before a block
abbrev rule_spans : Bool → List Chunk → List ℕ → List Span
rule_spans true cs block = gap_spans cs ++ (record { front = Styles 0; bytes = block }) ∷ []
rule_spans false cs block = (record { front = Styles (length (flat cs)); bytes = flat cs ++ block }) ∷ []

gap_bytes : (cs : List Chunk) (block : List ℕ) → bytes_of (gap_spans cs ++ (record { front = Styles 0; bytes = block }) ∷ []) ≡ flat cs ++ block
gap_bytes [] block = append-nil block
gap_bytes (c ∷ cs) block = ap (λ bs. c.first ∷ bs) (ap (λ bs. c.more ++ bs) (gap_bytes cs block) ∙ sym (append_assoc c.more (flat cs) block))

rule_bytes : (gaps : Bool) (cs : List Chunk) (block : List ℕ) → bytes_of (rule_spans gaps cs block) ≡ flat cs ++ block
rule_bytes true cs block = gap_bytes cs block
rule_bytes false cs block = append-nil (flat cs ++ block)

rule_behind : (cs : List Chunk) (block : List ℕ) → IsRuleBehind (gap_spans cs ++ (record { front = Styles 0; bytes = block }) ∷ [])
rule_behind [] block = tt
rule_behind (c ∷ []) block = (refl, tt)
rule_behind (c ∷ d ∷ cs) block = (refl, rule_behind (d ∷ cs) block)

rule_is_behind : (gaps : Bool) (cs : List Chunk) (block : List ℕ) → IsRuleBehind (rule_spans gaps cs block)
rule_is_behind true cs block = rule_behind cs block
rule_is_behind false cs block = tt

gap_front : (inside : Bool) (b : ℕ) (p rest : List ℕ) → begins_gap (b ∷ p ++ rest) ≡ true → behind_unit (b ∷ p ++ rest) ≡ rest → next_front inside (b ∷ p ++ rest) ≡ (Passed, rest)
unfolding next_front
gap_front inside b p rest gap behind = rw (gap, behind) refl

gaps_read : (n : ℕ) (cs : List Chunk) (block rest : List ℕ) → AreUnits cs (123 ∷ block ++ rest) → AreGaps cs → IsReadBefore n (record { front = Styles 0; bytes = 123 ∷ block }) rest
    → AreReadBefore n (gap_spans cs ++ (record { front = Styles 0; bytes = 123 ∷ block }) ∷ []) rest
gaps_read n [] block rest units gaps rule = (rule, tt)
gaps_read n (c ∷ cs) block rest units gaps rule =
    let behind : bytes_of (gap_spans cs ++ (record { front = Styles 0; bytes = 123 ∷ block }) ∷ []) ++ rest ≡ flat cs ++ (123 ∷ block ++ rest) = ap (λ bs. bs ++ rest) (gap_bytes cs (123 ∷ block)) ∙ append_assoc (flat cs) (123 ∷ block) rest in (
      record {
        some = omega arith;
        reads = rw behind (gap_front (nat_lt 0 n) c.first c.more (flat cs ++ (123 ∷ block ++ rest)) (units.0.gap _ units.1 ∙ gaps.0) (units.0.passes _ units.1));
      },
      gaps_read n cs block rest units.2 gaps.1 rule,
    )

-- it begins with no gap, or is nothing else
abbrev pub HowBegun : Bool → List Chunk → Type 0
HowBegun true cs = AreGaps cs
HowBegun false cs = BeginsList cs

rule_read : (gaps : Bool) (n : ℕ) (cs : List Chunk) (block rest : List ℕ) → AreUnits cs (123 ∷ block ++ rest) → has_none (list_ends (nat_lt 0 n)) [] cs ≡ true → brackets_after [] cs ≡ [] → behind_block (block ++ rest) ≡ rest → HowBegun gaps cs
    → AreReadBefore n (rule_spans gaps cs (123 ∷ block)) rest
rule_read true n cs block rest units none closed behind begun =
    gaps_read n cs block rest units begun (record { some = omega arith; reads = new_rule (nat_lt 0 n) [] (block ++ rest) rest tt refl refl behind tt })
rule_read false n cs block rest units none closed behind begun =
    (record { some = omega (arith, length-append (flat cs) (123 ∷ block)); reads = ap (next_front (nat_lt 0 n)) (append_assoc (flat cs) (123 ∷ block) rest) ∙ new_rule (nat_lt 0 n) cs (block ++ rest) rest units none closed behind begun }, tt)

-- ---- a list of parts

pub record IsRuleOf (n : ℕ) (s : Span) (rest : List ℕ) (p : List Chunk) (ps : List (List Chunk)) : Type 0 where
  pub block : List ℕ
  pub whole : s.bytes ≡ flat (joined p ps) ++ 123 ∷ block
  pub size : s.front ≡ Styles (length (flat (joined p ps)))
  pub is : IsPart (list_ends (nat_lt 0 n)) [] p
  pub are : AreParts (list_ends (nat_lt 0 n)) ps
  pub units : AreUnits (joined p ps) (123 ∷ block ++ rest)
  pub behind : behind_block (block ++ rest) ≡ rest

abbrev pub text_of : List Chunk → List ℕ
text_of p = flat (solid p)

-- a rule with the block of s, whose selectors have these texts, behind white space and comments
pub record HasTexts (s : Span) (ts : List Span) (texts : List (List ℕ)) : Type 0 where
  pub gaps : List Span
  pub first : List Chunk
  pub others : List (List Chunk)
  pub block : List ℕ
  pub list : List ℕ
  pub whole : ts ≡ gaps ++ (record { front = Styles (length (flat (joined first others))); bytes = flat (joined first others) ++ 123 ∷ block }) ∷ []
  pub old : s.bytes ≡ list ++ 123 ∷ block
  pub size : s.front ≡ Styles (length list)
  pub places_are : (to : ℕ) → pieces to (flat (joined first others)) ≡ places to first others
  pub texts_are : map text_of (first ∷ others) ≡ texts

pub record IsRelist (n at to : ℕ) (s : Span) (rest : List ℕ) (rs : List Range) (ts : List Span) (texts : List (List ℕ)) : Type 0 where
  pub cut : IsRelisted at to s.bytes rs ts
  pub behind : IsRuleBehind ts
  pub read : AreReadBefore n ts rest
  pub keeps : HasTexts s ts texts

abbrev pub with_flags : List (List Chunk) → List Bool → List Part
with_flags (p ∷ ps) (g ∷ gs) = (p, g) ∷ with_flags ps gs
with_flags ps gs = []

-- ---- where the cuts of a list end

abbrev SpotsTo : ℕ → List Spot → Type 0
SpotsTo e [] = Unit {0}
SpotsTo e (s ∷ ss) = (s.0.from ≤ e) × (s.0.to ≤ e) × SpotsTo e ss

spots_later : (d e : ℕ) (ss : List Spot) → d ≤ e → SpotsTo d ss → SpotsTo e ss
spots_later d e [] less to = tt
spots_later d e (s ∷ ss) less to = (omega (arith, to.0), omega (arith, to.1), spots_later d e ss less to.2)

last_within : (e to : ℕ) (ss : List Spot) → to ≤ e → SpotsTo e ss → Rattle.css_read.proofs.CutLemmas.last_to to ss ≤ e
last_within e to [] less within = less
last_within e to (s ∷ ss) less within = last_within e s.0.to ss within.1 within.2

cuts_within : (e : ℕ) (ss : List Spot) → SpotsTo e ss → AreTo e (spot_cuts ss)
cuts_within e [] within = tt
cuts_within e (s ∷ []) within = tt
cuts_within e (s ∷ t ∷ ss) within = by (Rattle.css_read.proofs.CutLemmas.all_go (t ∷ ss)) s.1 (cuts_within e (t ∷ ss) within.2)
  where
    by : (all flag : Bool) → AreTo e (spot_cuts (t ∷ ss))
        → AreTo e (if all then (if flag then [] else (record { from = s.0.to; to = Rattle.css_read.proofs.CutLemmas.last_to t.0.to ss }) ∷ []) else (if flag then (record { from = s.0.from; to = t.0.from }) ∷ spot_cuts (t ∷ ss) else spot_cuts (t ∷ ss)))
    by true true later = tt
    by true false later = (last_within e t.0.to ss within.2.1 within.2.2, tt)
    by false true later = (within.2.0, later)
    by false false later = later

pub joined_size : (p q : List Chunk) (qs : List (List Chunk)) → size_of (joined p (q ∷ qs)) ≡ size_of p + suc (size_of (joined q qs))
joined_size p q qs = ap length (flat-append p (comma ∷ joined q qs)) ∙ length-append (flat p) (flat (comma ∷ joined q qs))

spots_within : (at : ℕ) (p : List Chunk) (ps : List (List Chunk)) (flags : List Bool) → SpotsTo (at + size_of (joined p ps)) (spots at (with_flags (p ∷ ps) flags))
spots_within at p ps [] = tt
spots_within at p [] (g ∷ flags) = (omega (arith, part_size p), omega (arith, part_size p), tt)
spots_within at p (q ∷ qs) (g ∷ flags) =
    let next = at + size_of p + 1 in
    let all = joined_size p q qs in (
      omega (arith, part_size p),
      omega (arith, part_size p),
      spots_later (next + size_of (joined q qs)) (at + size_of (joined p (q ∷ qs))) (spots next (with_flags (q ∷ qs) flags)) (omega arith) (spots_within next q qs flags),
    )

-- ---- a list from its first selector on

part_flat : (p : List Chunk) → flat p ≡ flat (lead p) ++ (flat (solid p) ++ flat (trail p))
part_flat p = ap flat (sym (split p)) ∙ flat-append (lead p) (solid p ++ trail p) ∙ ap (λ bs. flat (lead p) ++ bs) (flat-append (solid p) (trail p))

list_flat : (p : List Chunk) (ps : List (List Chunk)) (g : Bool) (flags : List Bool) → length flags ≡ length ps → flat (joined p ps) ≡ flat (lead p) ++ from_solid (with_flags (p ∷ ps) (g ∷ flags))
list_flat p [] g flags count = part_flat p ∙ ap (λ bs. flat (lead p) ++ (flat (solid p) ++ bs)) (sym (append-nil (flat (trail p))))
list_flat p (q ∷ qs) g [] count = absurd (omega arith)
list_flat p (q ∷ qs) g (h ∷ flags) count =
    flat-append p (comma ∷ joined q qs)
    ∙ rw (part_flat p, list_flat q qs h flags (omega arith)) (
    append_assoc (flat (lead p)) (flat (solid p) ++ flat (trail p)) (44 ∷ (flat (lead q) ++ from_solid (with_flags (q ∷ qs) (h ∷ flags))))
    ∙ ap (λ bs. flat (lead p) ++ bs) (append_assoc (flat (solid p)) (flat (trail p)) (44 ∷ (flat (lead q) ++ from_solid (with_flags (q ∷ qs) (h ∷ flags))))))

-- ---- what a joined list has

comma_stops : (inside : Bool) → stops_at (list_ends inside) 44 [] ≡ false
comma_stops true = refl
comma_stops false = refl

comma_after : after_byte 44 [] ≡ []
unfolding after_byte
comma_after = refl

joined_closed : (ends : List ℕ) (p : List Chunk) (ps : List (List Chunk)) → IsPart ends [] p → AreParts ends ps → brackets_after [] (joined p ps) ≡ []
joined_closed ends p [] is are = is.closed
joined_closed ends p (q ∷ qs) is are =
    after_append [] p (comma ∷ joined q qs)
    ∙ ap (λ (os : List Bracket). brackets_after os (comma ∷ joined q qs)) is.closed
    ∙ ap (λ (os : List Bracket). brackets_after os (joined q qs)) comma_after
    ∙ joined_closed ends q qs are.0 are.1

joined_none : (inside : Bool) (p : List Chunk) (ps : List (List Chunk)) → IsPart (list_ends inside) [] p → AreParts (list_ends inside) ps → has_none (list_ends inside) [] (joined p ps) ≡ true
joined_none inside p [] is are = is.passes
joined_none inside p (q ∷ qs) is are = none_append (list_ends inside) [] p (comma ∷ joined q qs) ∙ rw (is.passes, is.closed, comma_stops inside, comma_after) (joined_none inside q qs are.0 are.1)

each_part : (ends : List ℕ) (ps : List (List Chunk)) (flags : List Bool) → AreParts ends ps → EachPart (IsPart ends []) (with_flags ps flags)
each_part ends [] flags are = tt
each_part ends (p ∷ ps) [] are = tt
each_part ends (p ∷ ps) (g ∷ flags) are = (are.0, each_part ends ps flags are.1)

each_unit : (ps : List (List Chunk)) (flags : List Bool) → EachUnits ps → EachPart (λ p. AreUnits p []) (with_flags ps flags)
each_unit [] flags each = tt
each_unit (p ∷ ps) [] each = tt
each_unit (p ∷ ps) (g ∷ flags) each = (each.0, each_unit ps flags each.1)

-- ---- the rule without them

to_later : (d e : ℕ) (rs : List Range) → d ≤ e → AreTo d rs → AreTo e rs
to_later d e [] less are = tt
to_later d e (r ∷ rs) less are = (omega (arith, are.0), to_later d e rs less are.1)

relist_cut : (n at : ℕ) (s : Span) (rest : List ℕ) (p : List Chunk) (ps : List (List Chunk)) (g : Bool) (flags : List Bool) (ts : List Span) (is : IsRuleOf n s rest p ps) → length flags ≡ length ps → some_stay (with_flags (p ∷ ps) (g ∷ flags)) ≡ true
    → bytes_of ts ≡ flat (joined_all (thinned (lead p) (with_flags (p ∷ ps) (g ∷ flags)))) ++ 123 ∷ is.block
    → IsRelisted at (at + length s.bytes) s.bytes (spot_cuts (spots at (with_flags (p ∷ ps) (g ∷ flags)))) ts
relist_cut n at s rest p ps g flags ts is count some left =
    let parts = with_flags (p ∷ ps) (g ∷ flags) in
    let rs = spot_cuts (spots at parts) in
    let list = flat (joined p ps) in
    let bytes = ap length is.whole ∙ length-append list (123 ∷ is.block) in
    let ends : AreTo (at + length list) rs = cuts_within (at + length list) (spots at parts) (spots_within at p ps (g ∷ flags)) in
    let begins : AreFrom (at + size_of (lead p)) rs = cuts_from at (p, g) (with_flags ps flags) in
    let first : without rs at (flat (lead p)) ≡ flat (lead p) = kept_all rs at (flat (lead p)) (λ k low high. none_before (at + size_of (lead p)) k rs begins high) in
    let later : without rs (at + size_of (lead p)) (from_solid parts) ≡ left_solid_on parts = cut_list at parts some in
    let inner : without rs at list ≡ flat (joined_all (thinned (lead p) parts)) =
    ap (without rs at) (list_flat p ps g flags count) ∙ without_append rs at (flat (lead p)) (from_solid parts) ∙ rw (first, later) (sym (ap flat (thinned_before (lead p) parts some) ∙ flat-append (lead p) (joined_all (thinned [] parts))))
    in
    let block : without rs (at + length list) (123 ∷ is.block) ≡ 123 ∷ is.block = kept_all rs (at + length list) (123 ∷ is.block) (λ k low high. none_behind (at + length list) k rs ends low) in
    record {
      from = from_earlier at (at + size_of (lead p)) rs (omega arith) begins;
      to_end = to_later (at + length list) (at + length s.bytes) rs (omega arith) ends;
      left = ap (without rs at) is.whole ∙ without_append rs at list (123 ∷ is.block) ∙ rw (inner, block) (sym left);
    }

gaps_solid : (p : List Chunk) → AreGaps p → solid p ≡ []
gaps_solid [] gaps = refl
gaps_solid (c ∷ p) gaps = rw gaps.0 (gaps_solid p gaps.1)

-- gaps have no comma
gaps_alone : (q : List Chunk) (qs : List (List Chunk)) → AreGaps (joined q qs) → qs ≡ []
gaps_alone q [] gaps = refl
gaps_alone q (r ∷ qs) gaps = absurd (no_comma q gaps)
  where
    no_comma : (q : List Chunk) → AreGaps (q ++ comma ∷ joined r qs) → ⊥
    no_comma [] gaps = not_gap gaps.0
      where
        not_gap : is_gap comma ≡ true → ⊥
        not_gap gap = cc
    no_comma (c ∷ q) gaps = no_comma q gaps.1

texts_by : (gaps : Bool) (ends : List ℕ) (s : Span) (old block : List ℕ) (parts : List Part) (list : List Chunk) → s.bytes ≡ old ++ 123 ∷ block → s.front ≡ Styles (length old) → (thin : IsThinned ends parts list) → HowBegun gaps list
    → HasTexts s (rule_spans gaps list (123 ∷ block)) (map text_of (staying parts))
unfolding pieces more_pieces
texts_by false ends s old block parts list whole front thin begun = record {
  gaps = [];
  first = thin.first;
  others = thin.others;
  block = block;
  list = old;
  whole = ap (λ (cs : List Chunk). (record { front = Styles (length (flat cs)); bytes = flat cs ++ 123 ∷ block }) ∷ []) thin.whole;
  old = whole;
  size = front;
  places_are = λ to. pieces_are ends to thin.first thin.others (subst (λ (cs : List Chunk). AreUnits cs []) thin.whole (thin.units [] refl)) thin.is thin.are;
  texts_are = map_solid (thin.first ∷ thin.others) ∙ ap (map flat) thin.same ∙ sym (map_solid (staying parts));
}
  where
    map_solid : (ps : List (List Chunk)) → map text_of ps ≡ map flat (map solid ps)
    map_solid [] = refl
    map_solid (p ∷ ps) = ap (λ (bs : List (List ℕ)). text_of p ∷ bs) (map_solid ps)
texts_by true ends s old block parts list whole front thin begun =
    let joined_gaps : AreGaps (joined thin.first thin.others) = subst AreGaps thin.whole begun in
    let alone : thin.others ≡ [] = gaps_alone thin.first thin.others joined_gaps in
    let first : AreGaps thin.first = subst (λ (qs : List (List Chunk)). AreGaps (joined thin.first qs)) alone joined_gaps in
    let none : solid thin.first ≡ [] = gaps_solid thin.first first in
    let same : map solid (staying parts) ≡ [] ∷ [] = sym thin.same ∙ ap (λ (qs : List (List Chunk)). map solid (thin.first ∷ qs)) alone ∙ ap (λ (q : List Chunk). q ∷ []) none in
    record {
      gaps = gap_spans list;
      first = [];
      others = [];
      block = block;
      list = old;
      whole = refl;
      old = whole;
      size = front;
      places_are = λ to. pieces_are ends to [] [] tt (record { passes = refl; commas = refl; closed = refl }) tt;
      texts_are = sym (map_solid (staying parts) ∙ ap (map flat) same);
    }
  where
    map_solid : (ps : List (List Chunk)) → map text_of ps ≡ map flat (map solid ps)
    map_solid [] = refl
    map_solid (p ∷ ps) = ap (λ (bs : List (List ℕ)). text_of p ∷ bs) (map_solid ps)

pub relist_is : (gaps : Bool) (n at : ℕ) (s : Span) (rest : List ℕ) (p : List Chunk) (ps : List (List Chunk)) (g : Bool) (flags : List Bool) → IsRuleOf n s rest p ps → length flags ≡ length ps → some_stay (with_flags (p ∷ ps) (g ∷ flags)) ≡ true
    → HowBegun gaps (joined_all (thinned (lead p) (with_flags (p ∷ ps) (g ∷ flags))))
    → (ts : List Span) × IsRelist n at (at + length s.bytes) s rest (spot_cuts (spots at (with_flags (p ∷ ps) (g ∷ flags)))) ts (map text_of (staying (with_flags (p ∷ ps) (g ∷ flags))))
relist_is gaps n at s rest p ps g flags is count some begun =
    let parts = with_flags (p ∷ ps) (g ∷ flags) in
    let inside = nat_lt 0 n in
    let list = joined_all (thinned (lead p) parts) in
    let each = units_split p ps (123 ∷ is.block ++ rest) is.units in
    let own = part_units p each.0 in
    let thin : IsThinned (list_ends inside) parts list =
    thinned_list (list_ends inside) (lead p) parts (lists_end inside) (lead_gaps p) own.0 (is.is, each_part (list_ends inside) ps flags is.are) (each_unit (p ∷ ps) (g ∷ flags) each) some
    in
    let none : has_none (list_ends inside) [] list ≡ true = ap (has_none (list_ends inside) []) thin.whole ∙ joined_none inside thin.first thin.others thin.is thin.are in
    let closed : brackets_after [] list ≡ [] = ap (brackets_after []) thin.whole ∙ joined_closed (list_ends inside) thin.first thin.others thin.is thin.are in (
      rule_spans gaps list (123 ∷ is.block),
      record {
        cut = relist_cut n at s rest p ps g flags (rule_spans gaps list (123 ∷ is.block)) is count some (rule_bytes gaps list (123 ∷ is.block));
        behind = rule_is_behind gaps list (123 ∷ is.block);
        read = rule_read gaps n list is.block rest (thin.units (123 ∷ is.block ++ rest) refl) none closed is.behind begun;
        keeps = texts_by gaps (list_ends inside) s (flat (joined p ps)) is.block parts list is.whole is.size thin begun;
      },
    )

-- ---- a rule as parts

-- each string of a list is closed, as it is passed over before what is behind it
abbrev pub ClosesAll : List ℕ → List ℕ → List ℕ → Type 0
ClosesAll ends list rest = (cs : List Chunk) → AreChunks ends [] list rest cs → strings_close cs ≡ true

pub record IsRuleAt (n at : ℕ) (s : Span) (rest : List ℕ) : Type 0 where
  pub first : List Chunk
  pub others : List (List Chunk)
  pub is : IsRuleOf n s rest first others
  pub pieces_are : pieces (at + length (flat (joined first others))) (flat (joined first others)) ≡ places (at + length (flat (joined first others))) first others

rule_from : (n at : ℕ) (s : Span) (rest : List ℕ) (len : ℕ) → s.front ≡ Styles len → IsListed (nat_lt 0 n) (s.bytes ++ rest) len rest → ((l : IsListed (nat_lt 0 n) (s.bytes ++ rest) len rest) → ClosesAll (list_ends (nat_lt 0 n)) l.list (123 ∷ l.block)) → IsRuleAt n at s rest
rule_from n at s rest len front l none =
    let inside = nat_lt 0 n in
    let end = block_end l.block in
    let block : l.block ≡ end.front ++ rest = end.whole ∙ ap (λ bs. end.front ++ bs) l.behind in
    let all : s.bytes ++ rest ≡ (l.list ++ 123 ∷ end.front) ++ rest = l.whole ∙ ap (λ bs. l.list ++ 123 ∷ bs) block ∙ sym (append_assoc l.list (123 ∷ end.front) rest) in
    let bytes : s.bytes ≡ l.list ++ 123 ∷ end.front = append_cancel_right s.bytes (l.list ++ 123 ∷ end.front) rest all in
    let found = chunks (list_ends inside) l.list 123 l.block l.scan in
    let units = units_are found.0 123 l.block found.1.passed (none l found.0 found.1) in
    let parts = parts_are (list_ends inside) [] found.0 (123 ∷ l.block) units found.1.none found.1.closed in
    let list : flat (joined parts.first parts.others) ≡ l.list = ap flat parts.whole ∙ found.1.whole in
    let before : AreUnits (joined parts.first parts.others) (123 ∷ l.block) = subst (λ (cs : List Chunk). AreUnits cs (123 ∷ l.block)) (sym parts.whole) units in
    record {
      first = parts.first;
      others = parts.others;
      is = record {
        block = end.front;
        whole = bytes ∙ ap (λ bs. bs ++ 123 ∷ end.front) (sym list);
        size = front ∙ ap Styles (sym l.size ∙ ap length (sym list));
        is = parts.is;
        are = parts.are;
        units = subst (λ (bs : List ℕ). AreUnits (joined parts.first parts.others) (123 ∷ bs)) block before;
        behind = ap behind_block (sym block) ∙ l.behind;
      };
      pieces_are = pieces_are (list_ends inside) (at + length (flat (joined parts.first parts.others))) parts.first parts.others (units_before (joined parts.first parts.others) (123 ∷ l.block) [] refl before) parts.is parts.are;
    }

pub some_listed : (inside : Bool) (bytes rest : List ℕ) (len : ℕ) → 0 < length bytes → next_front inside (bytes ++ rest) ≡ (Styles len, rest) → IsListed inside (bytes ++ rest) len rest
some_listed inside [] rest len some reads = absurd (omega arith)
some_listed inside (b ∷ p) rest len some reads = (listed inside b (p ++ rest) len rest reads).3

-- each rule whose list closes its strings is of parts, and its selectors are at their places
pub rule_at : (n at : ℕ) (s : Span) (rest : List ℕ) (len : ℕ) → s.front ≡ Styles len → IsReadBefore n s rest → ((l : IsListed (nat_lt 0 n) (s.bytes ++ rest) len rest) → ClosesAll (list_ends (nat_lt 0 n)) l.list (123 ∷ l.block)) → IsRuleAt n at s rest
rule_at n at s rest len front read none =
    let reads : next_front (nat_lt 0 n) (s.bytes ++ rest) ≡ (Styles len, rest) = read.reads ∙ ap (λ (f : Front). (f, rest)) front in
    rule_from n at s rest len front (some_listed (nat_lt 0 n) s.bytes rest len read.some reads) none

-- ---- a text by its plans

-- The text that is left is the spans that are left; each stands for what it stood for, and the steps of the text are theirs.
pub record IsLeft (size at : ℕ) (rs : List Range) (ss left : List Span) : Type 0 where
  pub text : without rs at (bytes_of ss) ≡ bytes_of left
  pub read : AreRead 0 left
  pub steps : at + length (bytes_of left) ≡ size → steps_from size 0 0 (bytes_of left) ≡ steps_at at left

pub plans_left : (size at : ℕ) (rs : List Range) (ps : List Plan) (ss : List Span) → AreRead 0 ss → ArePlans at ps ss → AreWell 0 0 ps ss → IsCutBy rs 0 at ps ss → IsLeft size at rs ss (left_of (fates_of 0 ps ss) ss)
plans_left size at rs ps ss read are well cut =
    let left = left_of (fates_of 0 ps ss) ss in
    let left_is : AreRead 0 left = left_read (fates_of 0 ps ss) ss 0 0 (plans_fair at 0 0 ps ss are well) read in
    record {
      text = text_left rs 0 at ps ss are cut;
      read = left_is;
      steps = λ whole. read_steps size 0 at left left_is whole;
    }
