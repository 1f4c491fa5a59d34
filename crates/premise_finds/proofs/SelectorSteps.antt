-- The selectors of a list and the rules of a sheet, one after the other.
use Rattle.std.proofs.Common.{◌≡◌, ℕ, ◌-◌, ◌<◌, nat_lt, List, [], ◌∷◌, ◌++◌, length, flat_map, refl, sym, ◌∙◌, append_assoc, arith}
use Rattle.std.proofs.lemmas.List.{append-nil}
use Rattle.std.proofs.lemmas.Grind.{flat_map-append}
use Rattle.text_bytes.specs.OrderMark.{behind_order_mark}
use Rattle.text_bytes.specs.Rests.{IsRest}
use Rattle.css_read.specs.declared.fronts.Front.{Front}
use Rattle.css_read.specs.declared.sheets.Range.{Range}
use Rattle.css_read.specs.Pieces.{from_comma, first_piece, more_pieces, pieces}
use Rattle.css_read.specs.Reading.{pieces_of}
use Rattle.css_read.specs.Rules.{Rule, next_front, depth_after, rules_at, rules_from, rules_of}
use Rattle.css_read.proofs.ItemSteps.{skips}
use Rattle.css_read.proofs.RuleSteps.{step}
use Rattle.premise_finds.specs.declared.findings.Finding.{Finding}
use Rattle.premise_finds.specs.Selectors.{found_at_selector, found_in_list, selector_findings}

-- ---- in a list

-- what is found in the pieces behind the first
unfoldable pub found_behind : List ℕ → ℕ → List ℕ → List Finding
found_behind text to bs = flat_map (found_at_selector text) (more_pieces to 0 bs)

pub only_one : (text : List ℕ) (to : ℕ) (bs rest : List ℕ) (before : List Finding) → rest ≡ from_comma bs → length rest ≡ 0 → before ≡ before ++ found_in_list text (pieces to bs)
unfolding pieces more_pieces
only_one text to bs [] before at none = rw (← at) (sym (append-nil before))
only_one text to bs (b ∷ rest) before at none = absurd (omega arith)

pub first_of_more : (text : List ℕ) (to : ℕ) (bs rest : List ℕ) (p : Range) (before after : List Finding) → p ≡ first_piece to bs → rest ≡ from_comma bs → 0 < length rest
    → after ≡ before ++ found_at_selector text p → after ++ found_behind text to rest ≡ before ++ found_in_list text (pieces to bs)
unfolding pieces more_pieces found_behind
first_of_more text to bs [] p before after is at some more = absurd (omega arith)
first_of_more text to bs (c ∷ rest) p before after is at some more =
    rw (more, ← is, ← at) (append_assoc before (found_at_selector text p) (flat_map (found_at_selector text) (more_pieces to 0 (c ∷ rest))))

pub one_more : (text : List ℕ) (to b : ℕ) (bs rest whole : List ℕ) (p : Range) (before after : List Finding) → whole ≡ b ∷ bs → p ≡ first_piece to bs → rest ≡ from_comma bs → IsRest bs rest
    → after ≡ before ++ found_at_selector text p → after ++ found_behind text to rest ≡ before ++ found_behind text to whole
unfolding more_pieces found_behind
one_more text to b bs rest [] p before after some is at last more = cc
one_more text to b bs rest (c ∷ whole) p before after some is at last more =
    let same : whole ≡ bs = cc in
    rw (more, same, ← is, ← at, skips to (length bs - length rest) bs, last.last) (append_assoc before (found_at_selector text p) (flat_map (found_at_selector text) (more_pieces to 0 rest)))

pub no_more : (text : List ℕ) (to : ℕ) (bs : List ℕ) (before all : List Finding) → length bs ≡ 0 → before ++ found_behind text to bs ≡ all → before ≡ all
unfolding more_pieces found_behind
no_more text to [] before all none found = sym (append-nil before) ∙ found
no_more text to (b ∷ bs) before all none found = absurd (omega arith)

-- ---- in a sheet

abbrev pub found_in_rules : List ℕ → List Rule → List Finding
found_in_rules text rules = flat_map (λ r. found_in_list text (pieces_of text r)) rules

pub goes_on : (text : List ℕ) (before after : List Finding) (size depth : ℕ) (bs rest : List ℕ) (f : Front) → (f, rest) ≡ next_front (nat_lt 0 depth) bs → IsRest bs rest → length rest < length bs
    → after ≡ before ++ found_in_rules text (rules_at f (size - length bs) (size - length rest))
    → after ++ found_in_rules text (rules_from size (depth_after depth f) 0 rest) ≡ before ++ found_in_rules text (rules_from size depth 0 bs)
goes_on text before after size depth bs rest f is last less more =
    rw (more, step size depth bs rest f is last less, flat_map-append (λ r. found_in_list text (pieces_of text r)) (rules_at f (size - length bs) (size - length rest)) (rules_from size (depth_after depth f) 0 rest))
    (append_assoc before _ _)

pub ends : (text : List ℕ) (before all : List Finding) (size depth : ℕ) (bs : List ℕ) → length bs ≡ 0 → before ++ found_in_rules text (rules_from size depth 0 bs) ≡ all → before ≡ all
unfolding rules_from
ends text before all size depth [] none found = sym (append-nil before) ∙ found
ends text before all size depth (b ∷ bs) none found = absurd (omega arith)

pub begins : (text rest : List ℕ) (before : List Finding) → before ≡ [] → rest ≡ behind_order_mark text → before ++ found_in_rules text (rules_from (length text) 0 0 rest) ≡ selector_findings text
unfolding rules_of selector_findings
begins text rest before none at = rw (none, at) refl
