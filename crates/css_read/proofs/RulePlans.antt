-- What becomes of a rule of a sheet, by its flags.
use Rattle.std.proofs.Common.{◌≡◌, ℕ, suc, ◌+◌, ◌-◌, ◌<◌, ◌==◌, ◌||◌, not, Bool, true, false, if◌then◌else◌, nat_lt, List, [], ◌∷◌, ◌++◌, length, take, drop, map, slice_range, refl, sym, ap, ◌∙◌, subst, arith, length-append, append_assoc}
use Rattle.std.specs.List.{list_any, list_all}
use Rattle.std.proofs.lemmas.Bool.{or_parts}
use Rattle.std.proofs.lemmas.List.{take_at, drop_at, length-map}
use Rattle.css_read.specs.declared.fronts.Front.{Front}
use Rattle.css_read.specs.declared.fronts.Front.TheVariants.{Styles}
use Rattle.css_read.specs.declared.sheets.Range.{Range}
use Rattle.css_read.specs.Order.{range_of}
use Rattle.css_read.specs.Pieces.{pieces}
use Rattle.css_read.specs.Pruned as spec
use Rattle.css_read.specs.Pruned.{Flagged, goes, begins_at_rule, list_cuts}
use Rattle.css_read.specs.Rules.{next_front}
use Rattle.css_read.specs.Sheets.{Item}
use Rattle.css_read.specs.Units.{begins_gap}
use Rattle.css_read.proofs.CutLemmas.{Spot, size_of, spots, all_go, spot_cuts, go_stay}
use Rattle.css_read.proofs.FlagLemmas.{zipped, places_zip, spot_of, flags_zip, all_same, cuts_same, StartsWell, how_begun}
use Rattle.css_read.proofs.ListLemmas.{listed}
use Rattle.css_read.proofs.PartLemmas.{comma, joined, places}
use Rattle.css_read.proofs.RelistLemmas.{HowBegun, with_flags, IsRuleOf, IsRuleAt, IsRelist, relist_is, text_of}
use Rattle.css_read.proofs.SpanLemmas.{Span, IsReadBefore}
use Rattle.css_read.proofs.ThinLemmas.{lead, solid, trail, Part, some_stay, thinned, joined_all, staying, EachPart, split}
use Rattle.css_read.proofs.UnitLemmas.{Chunk, flat, flat-append, is_gap, AreUnits, strip, solids}

-- ---- the bytes of the parts

pub slice_at : (pre xs rest : List ℕ) (from to : ℕ) → length pre ≡ from → from + length xs ≡ to → slice_range (pre ++ (xs ++ rest)) from to ≡ xs
slice_at pre xs rest from to before size =
    let count : length xs ≡ to - from = omega arith in
    ap (take (to - from)) (drop_at pre (xs ++ rest) from before) ∙ take_at xs rest (to - from) count

-- the text of each spot
abbrev AreTexts : List ℕ → ℕ → List Part → Type 0
AreTexts text at [] = Unit {0}
AreTexts text at (p ∷ ps) = (slice_range text (at + size_of (lead p.0)) (at + size_of (lead p.0) + size_of (solid p.0)) ≡ flat (solid p.0)) × AreTexts text (at + size_of p.0 + 1) ps

pub part_text : (pre z : List ℕ) (at : ℕ) (p : List Chunk) → length pre ≡ at → slice_range (pre ++ (flat p ++ z)) (at + size_of (lead p)) (at + size_of (lead p) + size_of (solid p)) ≡ flat (solid p)
part_text pre z at p before =
    let whole : flat p ≡ flat (lead p) ++ (flat (solid p) ++ flat (trail p)) = ap flat (sym (split p)) ∙ flat-append (lead p) (solid p ++ trail p) ∙ ap (λ bs. flat (lead p) ++ bs) (flat-append (solid p) (trail p)) in
    let text : pre ++ (flat p ++ z) ≡ (pre ++ flat (lead p)) ++ (flat (solid p) ++ (flat (trail p) ++ z)) =
    ap (λ bs. pre ++ (bs ++ z)) whole ∙ ap (λ bs. pre ++ bs) (append_assoc (flat (lead p)) (flat (solid p) ++ flat (trail p)) z ∙ ap (λ bs. flat (lead p) ++ bs) (append_assoc (flat (solid p)) (flat (trail p)) z)) ∙ sym (append_assoc pre (flat (lead p)) _)
    in
    ap (λ bs. slice_range bs (at + size_of (lead p)) (at + size_of (lead p) + size_of (solid p))) text
    ∙ slice_at (pre ++ flat (lead p)) (flat (solid p)) (flat (trail p) ++ z) _ _ (length-append pre (flat (lead p)) ∙ ap (λ n. n + size_of (lead p)) before) refl

part_texts : (pre z : List ℕ) (at : ℕ) (p : List Chunk) (ps : List (List Chunk)) (flags : List Bool) → length pre ≡ at → AreTexts (pre ++ (flat (joined p ps) ++ z)) at (with_flags (p ∷ ps) flags)
part_texts pre z at p ps [] before = tt
part_texts pre z at p [] (g ∷ flags) before = (part_text pre z at p before, tt)
part_texts pre z at p (q ∷ qs) (g ∷ flags) before =
    let inner = flat (joined q qs) in
    let list : flat (joined p (q ∷ qs)) ++ z ≡ flat p ++ (44 ∷ inner ++ z) = ap (λ bs. bs ++ z) (flat-append p (comma ∷ joined q qs)) ∙ append_assoc (flat p) (44 ∷ inner) z in
    let here : AreTexts (pre ++ (flat p ++ (44 ∷ inner ++ z))) at ((p, g) ∷ []) = (part_text pre (44 ∷ inner ++ z) at p before, tt) in
    let pre2 = (pre ++ flat p) ++ 44 ∷ [] in
    let size : length pre2 ≡ at + size_of p + 1 = length-append (pre ++ flat p) (44 ∷ []) ∙ ap (λ n. n + 1) (length-append pre (flat p) ∙ ap (λ n. n + size_of p) before) in
    let text : pre ++ (flat p ++ (44 ∷ inner ++ z)) ≡ pre2 ++ (inner ++ z) = sym (append_assoc pre (flat p) (44 ∷ inner ++ z)) ∙ sym (append_assoc (pre ++ flat p) (44 ∷ []) (inner ++ z)) in
    let later : AreTexts (pre2 ++ (inner ++ z)) (at + size_of p + 1) (with_flags (q ∷ qs) flags) = part_texts pre2 z (at + size_of p + 1) q qs flags size in
    subst (λ (bs : List ℕ). AreTexts (pre ++ bs) at (with_flags (p ∷ q ∷ qs) (g ∷ flags))) (sym list) (here.0, subst (λ (bs : List ℕ). AreTexts bs (at + size_of p + 1) (with_flags (q ∷ qs) flags)) (sym text) later)

-- ---- none but the first begins with `@`

at_test : List ℕ → Spot → Bool
at_test text s = begins_at_rule (slice_range text s.0.from s.0.to)

any_same : (text : List ℕ) (fs : List Flagged) → list_any (at_test text) (map spot_of fs) ≡ list_any (λ f. begins_at_rule (spec.bytes_of text f)) fs
unfolding at_test
any_same text [] = refl
any_same text (f ∷ fs) = ap (λ (x : Bool). begins_at_rule (spec.bytes_of text f) || x) (any_same text fs)

starts_well : (cs : List Chunk) → begins_at_rule (flat cs) ≡ false → StartsWell cs
starts_well [] none = tt
starts_well (c ∷ cs) none = none

none_at : (text : List ℕ) (at : ℕ) (ps : List Part) → AreTexts text at ps → list_any (at_test text) (spots at ps) ≡ false → EachPart (λ p. StartsWell (solid p)) ps
unfolding at_test
none_at text at [] are none = tt
none_at text at (p ∷ ps) are none =
    let both = or_parts (begins_at_rule (slice_range text (at + size_of (lead p.0)) (at + size_of (lead p.0) + size_of (solid p.0)))) (list_any (at_test text) (spots (at + size_of p.0 + 1) ps)) none in
    (starts_well (solid p.0) (ap begins_at_rule (sym are.0) ∙ both.0), none_at text (at + size_of p.0 + 1) ps are.1 both.1)

-- ---- how the list begins

record BeginsRule (list : List Chunk) : Type 0 where
  gap : lead list ≡ []
  well : StartsWell list

first_chunk : (b : ℕ) (bs : List ℕ) (list : List Chunk) (rest : List ℕ) → AreUnits list rest → flat list ++ rest ≡ b ∷ bs → begins_gap (b ∷ bs) ≡ false → (b == 64) ≡ false → BeginsRule list
first_chunk b bs [] rest units whole gap rule = record { gap = refl; well = tt }
first_chunk b bs (c ∷ cs) rest units whole gap rule =
    let same : c.first ∷ (c.more ++ (flat cs ++ rest)) ≡ b ∷ bs = ap (λ es. c.first ∷ es) (sym (append_assoc c.more (flat cs) rest)) ∙ whole in
    let none : is_gap c ≡ false = sym (units.0.gap (flat cs ++ rest) units.1) ∙ ap begins_gap same ∙ gap in
    let first : c.first ≡ b = cc in
    record { gap = rw none refl; well = ap (λ (n : ℕ). n == 64) first ∙ rule }

lead_joined : (p : List Chunk) (ps : List (List Chunk)) → lead (joined p ps) ≡ [] → lead p ≡ []
lead_joined [] ps none = refl
lead_joined (c ∷ p) [] none = none
lead_joined (c ∷ p) (q ∷ qs) none = by (is_gap c) none
  where
    by : (test : Bool) → (if test then c ∷ lead (p ++ comma ∷ joined q qs) else []) ≡ [] → (if test then c ∷ lead p else []) ≡ []
    by true none = absurd (some none)
      where
        some : c ∷ lead (p ++ comma ∷ joined q qs) ≡ [] → ⊥
        some none = cc
    by false none = refl

-- where there is no gap before it, the selector begins the part
solid_well : (p : List Chunk) (ps : List (List Chunk)) → lead p ≡ [] → StartsWell (joined p ps) → StartsWell (solid p)
solid_well [] ps none well = tt
solid_well (c ∷ p) ps none well = by (is_gap c) refl none (first p ps well)
  where
    first : (p : List Chunk) (ps : List (List Chunk)) → StartsWell (joined (c ∷ p) ps) → (c.first == 64) ≡ false
    first p [] well = well
    first p (q ∷ qs) well = well

    by : (test : Bool) → is_gap c ≡ test → (if test then c ∷ lead p else []) ≡ [] → (c.first == 64) ≡ false → StartsWell (solids (if test then strip p else c ∷ p))
    by true is none byte = absurd (some none)
      where
        some : c ∷ lead p ≡ [] → ⊥
        some none = cc
    by false is none byte = rw is byte

-- ---- a rule that stays, in part

-- the texts of the selectors that stay
abbrev pub texts_left : List ℕ → List Flagged → List (List ℕ)
texts_left text [] = []
texts_left text (f ∷ fs) = if goes f then texts_left text fs else spec.bytes_of text f ∷ texts_left text fs

spot_texts : List ℕ → List Spot → List (List ℕ)
spot_texts text [] = []
spot_texts text (s ∷ ss) = if s.1 then spot_texts text ss else slice_range text s.0.from s.0.to ∷ spot_texts text ss

texts_same : (text : List ℕ) (fs : List Flagged) → spot_texts text (map spot_of fs) ≡ texts_left text fs
unfolding spot_texts
texts_same text [] = refl
texts_same text (f ∷ fs) = by f.1 (texts_same text fs)
  where
    by : (g : Bool) → spot_texts text (map spot_of fs) ≡ texts_left text fs → (if g then spot_texts text (map spot_of fs) else spec.bytes_of text f ∷ spot_texts text (map spot_of fs)) ≡ (if g then texts_left text fs else spec.bytes_of text f ∷ texts_left text fs)
    by true later = later
    by false later = ap (λ (ts : List (List ℕ)). spec.bytes_of text f ∷ ts) later

parts_texts : (text : List ℕ) (at : ℕ) (ps : List Part) → AreTexts text at ps → map text_of (staying ps) ≡ spot_texts text (spots at ps)
unfolding spot_texts
parts_texts text at [] are = refl
parts_texts text at ((p, true) ∷ ps) are = parts_texts text (at + size_of p + 1) ps are.1
parts_texts text at ((p, false) ∷ ps) are = rw (are.0, parts_texts text (at + size_of p + 1) ps are.1) refl

zip_length : (ps : List (List Chunk)) (to : ℕ) (p : List Chunk) → length (places to p ps) ≡ suc (length ps)
zip_length [] to p = refl
zip_length (q ∷ qs) to p = ap (λ n. suc n) (zip_length qs to q)

pub record IsRulePlan (n at : ℕ) (s : Span) (rest text : List ℕ) (fs : List Flagged) : Type 0 where
  pub left : List Span
  pub is : IsRelist n at (at + length s.bytes) s rest (list_cuts fs) left (texts_left text fs)

drop_spots : (fs : List Flagged) (ss : List Spot) → map spot_of fs ≡ ss → map spot_of (drop 1 fs) ≡ drop 1 ss
drop_spots [] ss is = ap (drop 1) is
drop_spots (f ∷ fs) ss is = ap (drop 1) is

rule_of_parts : (n at : ℕ) (s : Span) (rest pre text : List ℕ) (p : List Chunk) (ps : List (List Chunk)) (own : List Item) (flags : List Bool) → IsRuleOf n s rest p ps → text ≡ pre ++ (s.bytes ++ rest) → length pre ≡ at
    → map range_of own ≡ places (at + size_of (joined p ps)) p ps → length flags ≡ length own
    → BeginsRule (joined p ps) → list_all goes (spec.with_flags own flags) ≡ false → list_any (λ f. begins_at_rule (spec.bytes_of text f)) (drop 1 (spec.with_flags own flags)) ≡ false
    → IsRulePlan n at s rest text (spec.with_flags own flags)
rule_of_parts n at s rest pre text p ps own [] is whole before owned count begins some none =
    let sizes = ap length owned in absurd (omega (arith, length-map own range_of, zip_length ps (at + size_of (joined p ps)) p))
rule_of_parts n at s rest pre text p ps own (g ∷ flags) is whole before owned count begins some none =
    let fs = spec.with_flags own (g ∷ flags) in
    let parts = with_flags (p ∷ ps) (g ∷ flags) in
    let list = flat (joined p ps) in
    let spots_are : map spot_of fs ≡ spots at parts = flags_zip own (g ∷ flags) ∙ ap (λ (rs : List Range). zipped rs (g ∷ flags)) owned ∙ sym (places_zip at p ps (g ∷ flags)) in
    let cuts : spot_cuts (spots at parts) ≡ list_cuts fs = ap spot_cuts (sym spots_are) ∙ cuts_same fs in
    let sizes = ap length owned in
    let others : length flags ≡ length ps = omega (arith, length-map own range_of, zip_length ps (at + size_of (joined p ps)) p) in
    let all : all_go (spots at parts) ≡ false = ap all_go (sym spots_are) ∙ all_same fs ∙ some in
    let stay : some_stay parts ≡ true = not_false (some_stay parts) (sym (go_stay at parts) ∙ all) in
    let text_is : text ≡ pre ++ (list ++ (123 ∷ is.block ++ rest)) = whole ∙ ap (λ bs. pre ++ bs) (ap (λ bs. bs ++ rest) is.whole ∙ append_assoc list (123 ∷ is.block) rest) in
    let texts : AreTexts text at parts = subst (λ (bs : List ℕ). AreTexts bs at parts) (sym text_is) (part_texts pre (123 ∷ is.block ++ rest) at p ps (g ∷ flags) before) in
    let later : list_any (at_test text) (spots (at + size_of p + 1) (with_flags ps flags)) ≡ false = ap (list_any (at_test text)) (sym (drop_spots fs (spots at parts) spots_are)) ∙ any_same text (drop 1 fs) ∙ none in
    let gapless : lead p ≡ [] = lead_joined p ps begins.gap in
    let each : EachPart (λ q. StartsWell (solid q)) parts = (solid_well p ps gapless begins.well, none_at text (at + size_of p + 1) (with_flags ps flags) texts.1 later) in
    let how = how_begun parts each stay in
    let begun : HowBegun how.0 (joined_all (thinned (lead p) parts)) = subst (λ (cs : List Chunk). HowBegun how.0 (joined_all (thinned cs parts))) (sym gapless) how.1 in
    let plan = relist_is how.0 n at s rest p ps g flags is others stay begun in
    let left : map text_of (staying parts) ≡ texts_left text fs = parts_texts text at parts texts ∙ ap (spot_texts text) (sym spots_are) ∙ texts_same text fs in
    record {
      left = plan.0;
      is = subst (λ (ts : List (List ℕ)). IsRelist n at (at + length s.bytes) s rest (list_cuts fs) plan.0 ts) left
          (subst (λ (rs : List Range). IsRelist n at (at + length s.bytes) s rest rs plan.0 (map text_of (staying parts))) cuts plan.1);
    }
  where
    not_false : (x : Bool) → not x ≡ false → x ≡ true
    not_false true is = refl
    not_false false is = absurd (wrong is)
      where
        wrong : true ≡ false → ⊥
        wrong same = cc

-- ---- by what is read

begins_of : (n : ℕ) (s : Span) (rest : List ℕ) (len : ℕ) (p : List Chunk) (ps : List (List Chunk)) (bytes : List ℕ) → s.bytes ≡ bytes → 0 < length bytes → next_front (nat_lt 0 n) (bytes ++ rest) ≡ (Styles len, rest) → IsRuleOf n s rest p ps → BeginsRule (joined p ps)
begins_of n s rest len p ps [] same some reads is = absurd (omega arith)
begins_of n s rest len p ps (b ∷ bs) same some reads is =
    let facts = listed (nat_lt 0 n) b (bs ++ rest) len rest reads in
    let whole : flat (joined p ps) ++ (123 ∷ is.block ++ rest) ≡ b ∷ bs ++ rest = sym (append_assoc (flat (joined p ps)) (123 ∷ is.block) rest) ∙ ap (λ cs. cs ++ rest) (sym is.whole ∙ same) in
    first_chunk b (bs ++ rest) (joined p ps) (123 ∷ is.block ++ rest) is.units whole facts.0 facts.2

pub rule_plan : (n at : ℕ) (s : Span) (rest pre text : List ℕ) (len : ℕ) (own : List Item) (flags : List Bool) → s.front ≡ Styles len → IsReadBefore n s rest → IsRuleAt n at s rest → text ≡ pre ++ (s.bytes ++ rest) → length pre ≡ at
    → map range_of own ≡ pieces (at + len) (slice_range text at (at + len)) → length flags ≡ length own → list_all goes (spec.with_flags own flags) ≡ false → list_any (λ f. begins_at_rule (spec.bytes_of text f)) (drop 1 (spec.with_flags own flags)) ≡ false
    → IsRulePlan n at s rest text (spec.with_flags own flags)
rule_plan n at s rest pre text len own flags front read rule whole before owned count some none =
    let reads : next_front (nat_lt 0 n) (s.bytes ++ rest) ≡ (Styles len, rest) = read.reads ∙ ap (λ (f : Front). (f, rest)) front in
    let list = flat (joined rule.first rule.others) in
    let size : length list ≡ len = styles_same _ _ (sym rule.is.size ∙ front) in
    let text_is : text ≡ pre ++ (list ++ (123 ∷ rule.is.block ++ rest)) = whole ∙ ap (λ bs. pre ++ bs) (ap (λ bs. bs ++ rest) rule.is.whole ∙ append_assoc list (123 ∷ rule.is.block) rest) in
    let slice : slice_range text at (at + len) ≡ list = ap (λ bs. slice_range bs at (at + len)) text_is ∙ slice_at pre list (123 ∷ rule.is.block ++ rest) at (at + len) before (ap (λ n. at + n) size) in
    let places_are : map range_of own ≡ places (at + length list) rule.first rule.others = owned ∙ ap (pieces (at + len)) slice ∙ ap (λ n. pieces (at + n) list) (sym size) ∙ rule.pieces_are in
    rule_of_parts n at s rest pre text rule.first rule.others own flags rule.is whole before places_are count (begins_of n s rest len rule.first rule.others s.bytes refl read.some reads rule.is) some none
  where
    styles_same : (a b : ℕ) → Styles a ≡ Styles b → a ≡ b
    styles_same a b same = cc
