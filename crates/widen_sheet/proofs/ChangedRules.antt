-- A rule of which some selectors are replaced by others is a rule with the same block.
use Rattle.std.proofs.Common.{◌≡◌, ℕ, suc, ◌-◌, ◌<◌, ◌==◌, ◌&&◌, Bool, true, false, nat_lt, List, [], ◌∷◌, ◌++◌, length, refl, sym, ap, ◌∙◌, subst, arith, length-append, append_assoc, inl, inr}
use Rattle.std.proofs.lemmas.Bool.{and_parts, cases_Bool, not-true}
use Rattle.std.proofs.lemmas.Bool.Decides.{nat_tests}
use Rattle.std.proofs.lemmas.List.{append_cancel_right}
use Rattle.text_bytes.specs.Blanks.{is_blank}
use Rattle.css_read.specs.declared.fronts.Front.{Front}
use Rattle.css_read.specs.declared.fronts.Front.TheVariants.{Styles}
use Rattle.css_read.specs.Rules.{list_ends, behind_block, style_rule, next_front}
use Rattle.css_read.specs.Units.{begins_comment, begins_gap, behind_unit, after_byte, stops_at, from_first_in, from_first}
use Rattle.css_read.proofs.Firsts.{found}
use Rattle.css_read.proofs.FrontLemmas.{blank_unit, comment_stays, block_end}
use Rattle.css_read.proofs.ListLemmas.{IsListed, listed, BeginsList}
use Rattle.css_read.proofs.PartLemmas.{comma, joined, IsPart, AreParts, PartsOf}
use Rattle.css_read.proofs.ScanLemmas.{no_front}
use Rattle.css_read.proofs.SpanLemmas.{Span, IsReadBefore}
use Rattle.css_read.proofs.ThinLemmas.{lead, solid, trail, part_left, AreGaps, lead_gaps, end_gaps, split, lists_end, none_append, after_append, left_is}
use Rattle.css_read.proofs.UnitLemmas.{Chunk, flat, AreUnits, ArePassed, chunks, brackets_after, has_none, other_unit, strip}
use Rattle.widen_sheet.proofs.PassedLemmas.{gap_here, scan_passed, passed_units, passed_append, passed_front, passed_behind, same_byte, passed_before, parts_passed}

-- ---- what a selector becomes

-- chunks that may stand for a selector wherever one stands
pub record IsQuiet (cs : List Chunk) : Type 0 where
  pub some : 0 < length cs
  pub units : (rest : List ℕ) → AreUnits cs rest
  pub part : (inside : Bool) → IsPart (list_ends inside) [] cs
  pub bare : solid cs ≡ cs
  pub begins : BeginsList cs

-- it stays, or others stand in its place
pub data Change : Type 0 where
  stays : Change
  becomes : List Chunk → Change

abbrev pub IsChange : Change → Type 0
IsChange stays = Unit {0}
IsChange (becomes cs) = IsQuiet cs

abbrev pub AreChanges : List Change → Type 0
AreChanges [] = Unit {0}
AreChanges (x ∷ xs) = IsChange x × AreChanges xs

abbrev pub first_change : List Change → Change
first_change [] = stays
first_change (x ∷ xs) = x

abbrev pub other_changes : List Change → List Change
other_changes [] = []
other_changes (x ∷ xs) = xs

-- a part with what its selector becomes, between the gaps that stand round it
abbrev pub changed_part : Change → List Chunk → List Chunk
changed_part stays p = p
changed_part (becomes cs) p = part_left (lead p) cs (trail p)

abbrev pub changed_parts : List Change → List (List Chunk) → List (List Chunk)
changed_parts xs [] = []
changed_parts xs (p ∷ ps) = changed_part (first_change xs) p ∷ changed_parts (other_changes xs) ps

abbrev pub changed_list : List Change → List Chunk → List (List Chunk) → List Chunk
changed_list xs p ps = joined (changed_part (first_change xs) p) (changed_parts (other_changes xs) ps)

pub first_is : (xs : List Change) → AreChanges xs → IsChange (first_change xs)
first_is [] are = tt
first_is (x ∷ xs) are = are.0

pub others_are : (xs : List Change) → AreChanges xs → AreChanges (other_changes xs)
others_are [] are = tt
others_are (x ∷ xs) are = are.1

-- ---- gaps stand before any bytes

gap_any : (b : ℕ) (m r others : List ℕ) → 0 < length r → behind_unit (b ∷ m ++ r) ≡ r → begins_gap (b ∷ m) ≡ true → behind_unit (b ∷ m ++ others) ≡ others
gap_any b m [] others some behind gap = absurd (omega arith)
gap_any b m (d ∷ t) others some behind gap = elim (cases_Bool (is_blank b)) [
  | inl blank ↦
      let none : m ≡ [] = no_front m d t (sym behind ∙ blank_unit b (m ++ d ∷ t) blank) in
      blank_unit b (m ++ others) blank ∙ ap (λ (x : List ℕ). x ++ others) none
  | inr other ↦ (comment_stays b m d t others (comment m (rw other at gap)) behind).behind
]
  where
    comment : (m : List ℕ) → begins_comment (b ∷ m) ≡ true → begins_comment (b ∷ m ++ d ∷ t) ≡ true
    comment [] is = absurd (alone b is)
      where
        alone : (b : ℕ) → begins_comment (b ∷ []) ≡ true → ⊥
        alone b is = let none : begins_comment (b ∷ []) ≡ false = grind (arith, nat_tests) in let wrong : true ≡ false = sym is ∙ none in cc
    comment (e ∷ m) is = is

gaps_any : (cs : List Chunk) (rest others : List ℕ) → 0 < length rest → AreGaps cs → ArePassed cs rest → ArePassed cs others
gaps_any [] rest others some gaps passed = tt
gaps_any (c ∷ cs) rest others some gaps passed =
    (gap_any c.first c.more (flat cs ++ rest) (flat cs ++ others) (omega (arith, length-append (flat cs) rest)) passed.0 gaps.0, gaps_any cs rest others some gaps.1 passed.1)

-- ---- a list with other selectors is passed over

part_passed : (x : Change) (p : List Chunk) (d : ℕ) (t u : List ℕ) → IsChange x → ArePassed p (d ∷ t) → ArePassed (changed_part x p) (d ∷ u)
part_passed stays p d t u is passed = passed_before p (d ∷ t) (d ∷ u) (same_byte d t u) passed
part_passed (becomes cs) p d t u is passed =
    let whole : ArePassed (lead p ++ (solid p ++ trail p)) (d ∷ t) = subst (λ (ds : List Chunk). ArePassed ds (d ∷ t)) (sym (split p)) passed in
    let front : ArePassed (lead p) (flat (solid p ++ trail p) ++ d ∷ t) = passed_front (lead p) (solid p ++ trail p) (d ∷ t) whole in
    let behind : ArePassed (trail p) (d ∷ t) = passed_behind (solid p) (trail p) (d ∷ t) (passed_behind (lead p) (solid p ++ trail p) (d ∷ t) whole) in
    let last : ArePassed (trail p) (d ∷ u) = passed_before (trail p) (d ∷ t) (d ∷ u) (same_byte d t u) behind in
    let own : ArePassed (solid cs) (flat (trail p) ++ d ∷ u) = subst (λ (ds : List Chunk). ArePassed ds (flat (trail p) ++ d ∷ u)) (sym is.bare) (passed_units cs (flat (trail p) ++ d ∷ u) (is.units (flat (trail p) ++ d ∷ u))) in
    passed_append (lead p) (solid cs ++ trail p) (d ∷ u)
    (gaps_any (lead p) (flat (solid p ++ trail p) ++ d ∷ t) (flat (solid cs ++ trail p) ++ d ∷ u) (omega (arith, length-append (flat (solid p ++ trail p)) (d ∷ t))) (lead_gaps p) front)
    (passed_append (solid cs) (trail p) (d ∷ u) own last)

pub list_passed : (xs : List Change) (p : List Chunk) (ps : List (List Chunk)) (t u : List ℕ) → AreChanges xs → ArePassed (joined p ps) (123 ∷ t) → ArePassed (changed_list xs p ps) (123 ∷ u)
list_passed xs p [] t u are passed = part_passed (first_change xs) p 123 t u (first_is xs are) passed
list_passed xs p (q ∷ ps) t u are passed =
    let inner = changed_list (other_changes xs) q ps in
    let front : ArePassed p (44 ∷ (flat (joined q ps) ++ 123 ∷ t)) = passed_front p (comma ∷ joined q ps) (123 ∷ t) passed in
    let later : ArePassed inner (123 ∷ u) = list_passed (other_changes xs) q ps t u (others_are xs are) (passed_behind p (comma ∷ joined q ps) (123 ∷ t) passed).1 in
    passed_append (changed_part (first_change xs) p) (comma ∷ inner) (123 ∷ u)
    (part_passed (first_change xs) p 44 (flat (joined q ps) ++ 123 ∷ t) (flat inner ++ 123 ∷ u) (first_is xs are) front)
    (other_unit 44 (flat inner ++ 123 ∷ u) refl refl, later)

-- ---- its parts

pub part_changed : (inside : Bool) (x : Change) (p : List Chunk) → IsChange x → IsPart (list_ends inside) [] p → IsPart (list_ends inside) [] (changed_part x p)
part_changed inside stays p is own = own
part_changed inside (becomes cs) p is own = left_is (list_ends inside) (lead p) cs (trail p) (lists_end inside) (lead_gaps p) (end_gaps (strip p)) (is.part inside)

pub parts_changed : (inside : Bool) (xs : List Change) (ps : List (List Chunk)) → AreChanges xs → AreParts (list_ends inside) ps → AreParts (list_ends inside) (changed_parts xs ps)
parts_changed inside xs [] are own = tt
parts_changed inside xs (p ∷ ps) are own = (part_changed inside (first_change xs) p (first_is xs are) own.0, parts_changed inside (other_changes xs) ps (others_are xs are) own.1)

-- ---- how it begins

begins_more : (cs ds : List Chunk) → 0 < length cs → BeginsList cs → BeginsList (cs ++ ds)
begins_more [] ds some begins = absurd (omega arith)
begins_more (c ∷ cs) ds some begins = begins

begins_joined : (p : List Chunk) (ps : List (List Chunk)) → 0 < length p → BeginsList p → BeginsList (joined p ps)
begins_joined p [] some begins = begins
begins_joined p (q ∷ ps) some begins = begins_more p (comma ∷ joined q ps) some begins

begins_front : (c : Chunk) (p : List Chunk) (ps : List (List Chunk)) → BeginsList (joined (c ∷ p) ps) → BeginsList (c ∷ p)
begins_front c p [] begins = begins
begins_front c p (q ∷ ps) begins = begins

no_lead : (p : List Chunk) (ps : List (List Chunk)) → BeginsList (joined p ps) → lead p ≡ []
no_lead [] ps begins = refl
no_lead (c ∷ p) ps begins = rw (begins_front c p ps begins).0 refl

pub list_begins : (xs : List Change) (p : List Chunk) (ps : List (List Chunk)) → AreChanges xs → BeginsList (joined p ps) → BeginsList (changed_list xs p ps)
list_begins xs p ps are begins = by (first_change xs) (first_is xs are)
  where
    empty : (qs : List (List Chunk)) → BeginsList (joined [] qs)
    empty [] = tt
    empty (q ∷ qs) = (refl, refl)

    same : (p : List Chunk) (qs : List (List Chunk)) → BeginsList (joined p ps) → BeginsList (joined p qs)
    same [] qs begins = empty qs
    same (c ∷ p) qs begins = begins_joined (c ∷ p) qs (omega arith) (begins_front c p ps begins)

    by : (x : Change) → IsChange x → BeginsList (joined (changed_part x p) (changed_parts (other_changes xs) ps))
    by stays is = same p (changed_parts (other_changes xs) ps) begins
    by (becomes cs) is =
        let part : changed_part (becomes cs) p ≡ cs ++ trail p = rw (no_lead p ps begins, is.bare) refl in
        subst (λ (q : List Chunk). BeginsList (joined q (changed_parts (other_changes xs) ps))) (sym part)
        (begins_joined (cs ++ trail p) (changed_parts (other_changes xs) ps) (omega (arith, is.some, length-append cs (trail p))) (begins_more cs (trail p) is.some is.begins))

-- ---- a rule

comma_stops : (inside : Bool) → stops_at (list_ends inside) 44 [] ≡ false
comma_stops true = refl
comma_stops false = refl

comma_after : after_byte 44 [] ≡ []
unfolding after_byte
comma_after = refl

joined_closed : (ends : List ℕ) (p : List Chunk) (ps : List (List Chunk)) → IsPart ends [] p → AreParts ends ps → brackets_after [] (joined p ps) ≡ []
joined_closed ends p [] is are = is.closed
joined_closed ends p (q ∷ qs) is are =
    after_append [] p (comma ∷ joined q qs)
    ∙ ap (λ os. brackets_after os (comma ∷ joined q qs)) is.closed
    ∙ ap (λ os. brackets_after os (joined q qs)) comma_after
    ∙ joined_closed ends q qs are.0 are.1

joined_none : (inside : Bool) (p : List Chunk) (ps : List (List Chunk)) → IsPart (list_ends inside) [] p → AreParts (list_ends inside) ps → has_none (list_ends inside) [] (joined p ps) ≡ true
joined_none inside p [] is are = is.passes
joined_none inside p (q ∷ qs) is are = none_append (list_ends inside) [] p (comma ∷ joined q qs) ∙ rw (is.passes, is.closed, comma_stops inside, comma_after) (joined_none inside q qs are.0 are.1)

styles_at : (inside : Bool) (bs : List ℕ) (len : ℕ) (block rest : List ℕ) → from_first (list_ends inside) bs ≡ 123 ∷ block → length bs - suc (length block) ≡ len → behind_block block ≡ rest → style_rule inside bs ≡ (Styles len, rest)
unfolding style_rule
styles_at inside bs len block rest at count behind = rw (at, count, behind) refl

at_brace : (inside : Bool) (block : List ℕ) → from_first (list_ends inside) (123 ∷ block) ≡ 123 ∷ block
at_brace true block = found (list_ends true) 123 block [] refl
at_brace false block = found (list_ends false) 123 block [] refl

not_close : (inside : Bool) (b : ℕ) → stops_at (list_ends inside) b [] ≡ false → (inside && b == 125) ≡ false
not_close true b stops = grind (arith, nat_tests)
not_close false b stops = refl

pub rule_passed : (inside : Bool) (cs : List Chunk) (block rest : List ℕ) → ArePassed cs (123 ∷ block) → has_none (list_ends inside) [] cs ≡ true → brackets_after [] cs ≡ [] → behind_block block ≡ rest → BeginsList cs
    → next_front inside (flat cs ++ 123 ∷ block) ≡ (Styles (length (flat cs)), rest)
unfolding next_front
rule_passed true [] block rest passed none closed behind begins = styles_at true (123 ∷ block) 0 block rest (at_brace true block) (omega arith) behind
rule_passed false [] block rest passed none closed behind begins = styles_at false (123 ∷ block) 0 block rest (at_brace false block) (omega arith) behind
rule_passed inside (c ∷ cs) block rest passed none closed behind begins =
    let scan : from_first (list_ends inside) (flat (c ∷ cs) ++ 123 ∷ block) ≡ 123 ∷ block = scan_passed (list_ends inside) [] (c ∷ cs) (123 ∷ block) passed none ∙ ap (λ os. from_first_in (list_ends inside) os 0 (123 ∷ block)) closed ∙ at_brace inside block in
    let stops : stops_at (list_ends inside) c.first [] ≡ false = not-true _ (and_parts _ _ none).0 in
    let inner : (c.more ++ flat cs) ++ 123 ∷ block ≡ c.more ++ (flat cs ++ 123 ∷ block) = append_assoc c.more (flat cs) (123 ∷ block) in
    let gap : begins_gap (c.first ∷ (c.more ++ flat cs) ++ 123 ∷ block) ≡ false = ap (λ bs. begins_gap (c.first ∷ bs)) inner ∙ gap_here c (flat cs ++ 123 ∷ block) passed.0 ∙ begins.0 in
    let sizes = length-append (flat (c ∷ cs)) (123 ∷ block) in
    rw (gap, not_close inside c.first stops, begins.1) (styles_at inside (flat (c ∷ cs) ++ 123 ∷ block) (length (flat (c ∷ cs))) block rest scan (omega arith) behind)

-- a rule as parts, and its block
pub record IsRuleOf (n : ℕ) (s : Span) (rest : List ℕ) : Type 0 where
  pub first : List Chunk
  pub others : List (List Chunk)
  pub block : List ℕ
  pub whole : s.bytes ≡ flat (joined first others) ++ 123 ∷ block
  pub size : s.front ≡ Styles (length (flat (joined first others)))
  pub is : IsPart (list_ends (nat_lt 0 n)) [] first
  pub are : AreParts (list_ends (nat_lt 0 n)) others
  pub passed : ArePassed (joined first others) (123 ∷ block ++ rest)
  pub behind : behind_block (block ++ rest) ≡ rest
  pub begins : BeginsList (joined first others)

-- how a list begins that is read as one
list_begun : (inside : Bool) (cs : List Chunk) (bs t rest : List ℕ) (len : ℕ) → bs ≡ flat cs ++ 123 ∷ t → ArePassed cs (123 ∷ t) → next_front inside bs ≡ (Styles len, rest) → BeginsList cs
list_begun inside [] bs t rest len whole passed reads = tt
list_begun inside (c ∷ cs) bs t rest len whole passed reads =
    let all : bs ≡ c.first ∷ (c.more ++ (flat cs ++ 123 ∷ t)) = whole ∙ ap (λ (r : List ℕ). c.first ∷ r) (append_assoc c.more (flat cs) (123 ∷ t)) in
    let is = listed inside c.first (c.more ++ (flat cs ++ 123 ∷ t)) len rest (subst (λ (r : List ℕ). next_front inside r ≡ (Styles len, rest)) all reads) in
    (sym (gap_here c (flat cs ++ 123 ∷ t) passed.0) ∙ is.0, is.2)

rule_from : (n : ℕ) (s : Span) (rest : List ℕ) (len : ℕ) → s.front ≡ Styles len → next_front (nat_lt 0 n) (s.bytes ++ rest) ≡ (Styles len, rest) → IsListed (nat_lt 0 n) (s.bytes ++ rest) len rest → IsRuleOf n s rest
rule_from n s rest len front reads l =
    let inside = nat_lt 0 n in
    let end = block_end l.block in
    let block : l.block ≡ end.front ++ rest = end.whole ∙ ap (λ bs. end.front ++ bs) l.behind in
    let all : s.bytes ++ rest ≡ (l.list ++ 123 ∷ end.front) ++ rest = l.whole ∙ ap (λ bs. l.list ++ 123 ∷ bs) block ∙ sym (append_assoc l.list (123 ∷ end.front) rest) in
    let bytes : s.bytes ≡ l.list ++ 123 ∷ end.front = append_cancel_right s.bytes (l.list ++ 123 ∷ end.front) rest all in
    let found = chunks (list_ends inside) l.list 123 l.block l.scan in
    let parts : PartsOf (list_ends inside) [] found.0 = parts_passed (list_ends inside) [] found.0 (123 ∷ l.block) found.1.passed found.1.none found.1.closed in
    let list : flat (joined parts.first parts.others) ≡ l.list = ap flat parts.whole ∙ found.1.whole in
    let before : ArePassed (joined parts.first parts.others) (123 ∷ l.block) = subst (λ (cs : List Chunk). ArePassed cs (123 ∷ l.block)) (sym parts.whole) found.1.passed in
    record {
      first = parts.first;
      others = parts.others;
      block = end.front;
      whole = bytes ∙ ap (λ bs. bs ++ 123 ∷ end.front) (sym list);
      size = front ∙ ap Styles (sym l.size ∙ ap length (sym list));
      is = parts.is;
      are = parts.are;
      passed = subst (λ (bs : List ℕ). ArePassed (joined parts.first parts.others) (123 ∷ bs)) block before;
      behind = ap behind_block (sym block) ∙ l.behind;
      begins = list_begun inside (joined parts.first parts.others) (s.bytes ++ rest) l.block rest len (l.whole ∙ ap (λ bs. bs ++ 123 ∷ l.block) (sym list)) before reads;
    }

some_listed : (inside : Bool) (bytes rest : List ℕ) (len : ℕ) → 0 < length bytes → next_front inside (bytes ++ rest) ≡ (Styles len, rest) → IsListed inside (bytes ++ rest) len rest
some_listed inside [] rest len some reads = absurd (omega arith)
some_listed inside (b ∷ p) rest len some reads = (listed inside b (p ++ rest) len rest reads).3

pub rule_of : (n : ℕ) (s : Span) (rest : List ℕ) (len : ℕ) → s.front ≡ Styles len → IsReadBefore n s rest → IsRuleOf n s rest
rule_of n s rest len front read =
    let reads : next_front (nat_lt 0 n) (s.bytes ++ rest) ≡ (Styles len, rest) = read.reads ∙ ap (λ (f : Front). (f, rest)) front in
    rule_from n s rest len front reads (some_listed (nat_lt 0 n) s.bytes rest len read.some reads)

-- the rule with other selectors
abbrev pub changed_rule : {n : ℕ} {s : Span} {rest : List ℕ} → List Change → IsRuleOf n s rest → Span
changed_rule xs r = record { front = Styles (length (flat (changed_list xs r.first r.others))); bytes = flat (changed_list xs r.first r.others) ++ 123 ∷ r.block }

pub rule_changed : (n : ℕ) (s : Span) (rest : List ℕ) (xs : List Change) (r : IsRuleOf n s rest) → AreChanges xs → IsReadBefore n (changed_rule xs r) rest
rule_changed n s rest xs r are =
    let inside = nat_lt 0 n in
    let list = changed_list xs r.first r.others in
    let first : IsPart (list_ends inside) [] (changed_part (first_change xs) r.first) = part_changed inside (first_change xs) r.first (first_is xs are) r.is in
    let others : AreParts (list_ends inside) (changed_parts (other_changes xs) r.others) = parts_changed inside (other_changes xs) r.others (others_are xs are) r.are in
    record {
      some = omega (arith, length-append (flat list) (123 ∷ r.block));
      reads = ap (next_front inside) (append_assoc (flat list) (123 ∷ r.block) rest)
          ∙ rule_passed inside list (r.block ++ rest) rest (list_passed xs r.first r.others (r.block ++ rest) (r.block ++ rest) are r.passed) (joined_none inside _ _ first others) (joined_closed (list_ends inside) _ _ first others) r.behind
          (list_begins xs r.first r.others are r.begins);
    }
