-- The selectors of a widened sheet beside those of the sheet.
use Rattle.std.proofs.Common.{◌≡◌, ℕ, ◌+◌, ◌-◌, ◌≤◌, nat_le, Bool, true, false, List, [], ◌∷◌, length, drop, map, slice_range, codes, Option, Some, None, Result, Ok, Err, refl, sym, ap, ◌∙◌, subst, arith, inl, inr}
use Rattle.std.proofs.lemmas.Bool.{cases_Bool}
use Rattle.std.proofs.lemmas.Bool.Decides.{nat_tests}
use Rattle.std.proofs.lemmas.List.{length-take-le, length-drop}
use Rattle.tp_base.specs.Names.{Named}
use Rattle.tp_base.proofs.Fronts.{front_itself}
use Rattle.sel_text.specs.declared.faults.SelFault.{SelFault}
use Rattle.sel_text.specs.declared.faults.SelFault.TheVariants as sel
use Rattle.sel_text.specs.declared.faults.TheConstants.{MOST_PARTS}
use Rattle.sel_text.specs.declared.selectors.Compound.{Compound}
use Rattle.sel_text.specs.declared.selectors.Join.{Join}
use Rattle.sel_text.specs.Reading as one
use Rattle.sel_text.specs.Selectors.{Selector}
use Rattle.sel_text.specs.Syntax.{Syntax, syntax_of}
use Rattle.css_read.specs.declared.faults.SheetFault.{SheetFault}
use Rattle.css_read.specs.declared.sheets.Range.{Range}
use Rattle.css_read.specs.Effects.{IsSameOutcome}
use Rattle.css_read.specs.Order.{AreApart, range_of}
use Rattle.css_read.specs.Reading.{Ending, item, item_from, read_item}
use Rattle.css_read.specs.Shapes.{IsAlikeOutcome}
use Rattle.css_read.specs.Sheets.{Outcome, judged, skipped, Item}
use Rattle.css_read.proofs.AgainLemmas.{IsKnownIn, AreKnownIn, IsReadAt, item_again}
use Rattle.css_read.proofs.MovedLemmas.{OfNames, compounds_names}
use Rattle.css_read.proofs.PieceOrder.{in_order}
use Rattle.widen_sheet.specs.SameSheet.{atoms_in, wide_item, IsRead, IsLeft, IsSameItem, AreSameItems}
use Rattle.widen_sheet.specs.Wide.{Wide, has, wide_of, kinds, compounds_left, widens, bytes_at, widened_item, spelled, dropped}
use Rattle.widen_sheet.proofs.ChangedRules.{stays, becomes}
use Rattle.widen_sheet.proofs.ChangedTexts.{HasChange, IsPair, ArePairs}
use Rattle.widen_sheet.proofs.JoinReads.{AreTokens, tokens_are}
use Rattle.widen_sheet.proofs.SheetPieces.{widens_plain, item_pieces}
use Rattle.widen_sheet.proofs.SlotPieces.{words}
use Rattle.widen_sheet.proofs.SpelledItems.{IsStill, spelled_read}
use Rattle.widen_sheet.proofs.SpelledQuiet.{spelled_quiet}
use Rattle.widen_sheet.proofs.WholeLemmas.{whole_text}

-- ---- what becomes of a selector

pub data HowWide (text : List ℕ) (i : Item) : Type 0 where
  is_wide : (w : Wide) → AreTokens true w → wide_item text i ≡ Some w → widened_item text i ≡ spelled w → has (codes "*/") (words w) ≡ false → compounds_left (kinds w) ≤ MOST_PARTS → HowWide text i
  is_same : wide_item text i ≡ None → widened_item text i ≡ bytes_at text i → HowWide text i

how_by : (text : List ℕ) (i : Item) → widens i.outcome (bytes_at text i) ≡ true → (o : Option Wide) → wide_of (bytes_at text i) ≡ o → HowWide text i
unfolding widened_item wide_item
how_by text i plain None is = is_same (rw (plain, is) refl) (rw (plain, is) refl)
how_by text i plain (Some w) is = by (nat_le (compounds_left (kinds w)) MOST_PARTS) refl
  where
    less : (a b : ℕ) → nat_le a b ≡ true → a ≤ b
    less a b e = grind (arith, nat_tests)

    by : (t : Bool) → nat_le (compounds_left (kinds w)) MOST_PARTS ≡ t → HowWide text i
    by true e =
        let none = widens_plain i.outcome (bytes_at text i) plain in
        is_wide w (tokens_are (bytes_at text i) true 0 w none is) (rw (plain, is, e) refl) (rw (plain, is, e) refl) (ap (has (codes "*/")) (whole_text (bytes_at text i) true 0 w is) ∙ none) (less (compounds_left (kinds w)) MOST_PARTS e)
    by false e = is_same (rw (plain, is, e) refl) (rw (plain, is, e) refl)

pub how_wide : (text : List ℕ) (i : Item) → HowWide text i
unfolding widened_item wide_item
how_wide text i = elim (cases_Bool (widens i.outcome (bytes_at text i))) [
  | inl e ↦ how_by text i e (wide_of (bytes_at text i)) refl
  | inr e ↦ is_same (rw e refl) (rw e refl)
]

change_by : (text : List ℕ) (i : Item) → HowWide text i → HasChange (widened_item text) text i
change_by text i (is_wide w are is new none few) = let q = spelled_quiet w are none in record { change = becomes q.0; is = q.2; text_is = new ∙ q.1; pieces = item_pieces text i }
change_by text i (is_same is new) = record { change = stays; is = tt; text_is = new; pieces = item_pieces text i }

pub has_change : (text : List ℕ) (i : Item) → HasChange (widened_item text) text i
has_change text i = change_by text i (how_wide text i)

-- ---- what is read

ok_item : (a b : Item) → ◌≡◌ {A = Result Item SheetFault} (Ok a) (Ok b) → a ≡ b
ok_item a b is = cc

not_ok : (e : SheetFault) (a : Item) → ◌≡◌ {A = Result Item SheetFault} (Err e) (Ok a) → ⊥
not_ok e a is = cc

still_of : (names : List Named) (rule : ℕ) (p : Range) (j : Item) (e : one.Ending Selector) → item_from rule p e ≡ (names, Ok j) → IsStill names e
still_of names rule p j (later, Ok s) is = ap (λ (r : Ending Item). r.0) is
still_of names rule p j (later, Err (sel.Skipped why at)) is = ap (λ (r : Ending Item). r.0) is
still_of names rule p j (later, Err sel.TooManyAtoms) is = absurd (not_ok _ j (ap (λ (r : Ending Item). r.1) is))
still_of names rule p j (later, Err sel.Memory) is = absurd (not_ok _ j (ap (λ (r : Ending Item). r.1) is))

wide_left : (names : List Named) (text wide : List ℕ) (i j : Item) (w : Wide) → AreTokens true w → slice_range wide j.from j.to ≡ spelled w → has (codes "*/") (words w) ≡ false → compounds_left (kinds w) ≤ MOST_PARTS → read_item wide j.rule names (range_of j) ≡ (names, Ok j)
    → j.outcome ≡ judged (dropped (atoms_in names) w)
unfolding read_item one.read_selector
wide_left names text wide i j w are slice none few read =
    let here : item_from j.rule (range_of j) (one.read_piece true j.to (spelled w) names) ≡ (names, Ok j) = subst (λ (x : List ℕ). item_from j.rule (range_of j) (one.read_piece true j.to x names) ≡ (names, Ok j)) slice read in
    let e = spelled_read names j.to w are none few (still_of names j.rule (range_of j) j (one.read_piece true j.to (spelled w) names) here) in
    let all : ◌≡◌ {A = Ending Item} (names, Ok (item j.rule (range_of j) (judged (dropped (atoms_in names) w)))) (names, Ok j) = sym (ap (item_from j.rule (range_of j)) e) ∙ here in
    sym (ap (λ (x : Item). x.outcome) (ok_item _ j (ap (λ (r : Ending Item). r.1) all)))

-- two tables, one text
fault_alike : (rule : ℕ) (p q : Range) (i x : Item) (later names : List Named) (fault : Option SelFault) (cs ds : List Compound) (joins : List Join) (a b : List Named) → item_from rule p (a, one.selector_or fault cs joins) ≡ (later, Ok i) → item_from rule q (b, one.selector_or fault ds joins) ≡ (names, Ok x)
    → IsAlikeOutcome i.outcome x.outcome
fault_alike rule p q i x later names None cs ds joins a b first second =
    let one' = ok_item _ i (ap (λ (r : Ending Item). r.1) first) in
    let other = ok_item _ x (ap (λ (r : Ending Item). r.1) second) in
    subst (λ (y : Item). IsAlikeOutcome y.outcome x.outcome) one' (subst (λ (y : Item). IsAlikeOutcome (judged (Rattle.sel_text.specs.Parts.selector_from cs joins)) y.outcome) other tt)
fault_alike rule p q i x later names (Some (sel.Skipped why at)) cs ds joins a b first second =
    let one' = ok_item _ i (ap (λ (r : Ending Item). r.1) first) in
    let other = ok_item _ x (ap (λ (r : Ending Item). r.1) second) in
    subst (λ (y : Item). IsAlikeOutcome y.outcome x.outcome) one' (subst (λ (y : Item). IsAlikeOutcome (skipped why at) y.outcome) other (refl, refl))
fault_alike rule p q i x later names (Some sel.TooManyAtoms) cs ds joins a b first second = absurd (not_ok _ i (ap (λ (r : Ending Item). r.1) first))
fault_alike rule p q i x later names (Some sel.Memory) cs ds joins a b first second = absurd (not_ok _ i (ap (λ (r : Ending Item). r.1) first))

both_alike : (rule : ℕ) (p q : Range) (i x : Item) (later names : List Named) (s : Syntax) (e f : one.Ending (List Compound)) → OfNames e → OfNames f
    → item_from rule p (one.then_read e (λ later compounds. (later, one.selector_or s.fault compounds s.joins))) ≡ (later, Ok i) → item_from rule q (one.then_read f (λ later compounds. (later, one.selector_or s.fault compounds s.joins))) ≡ (names, Ok x)
    → IsAlikeOutcome i.outcome x.outcome
both_alike rule p q i x later names s (a, Ok cs) (b, Ok ds) of of2 first second = fault_alike rule p q i x later names s.fault cs ds s.joins a b first second
both_alike rule p q i x later names s (a, Err sel.TooManyAtoms) f of of2 first second = absurd (not_ok _ i (ap (λ (r : Ending Item). r.1) first))
both_alike rule p q i x later names s (a, Err (sel.Skipped why at)) f of of2 first second = absurd of
both_alike rule p q i x later names s (a, Err sel.Memory) f of of2 first second = absurd of
both_alike rule p q i x later names s (a, Ok cs) (b, Err sel.TooManyAtoms) of of2 first second = absurd (not_ok _ x (ap (λ (r : Ending Item). r.1) second))
both_alike rule p q i x later names s (a, Ok cs) (b, Err (sel.Skipped why at)) of of2 first second = absurd of2
both_alike rule p q i x later names s (a, Ok cs) (b, Err sel.Memory) of of2 first second = absurd of2

items_alike : (text : List ℕ) (rule : ℕ) (p : Range) (i x : Item) (later names : List Named) → read_item text rule later p ≡ (later, Ok i) → read_item text rule names p ≡ (names, Ok x) → IsAlikeOutcome i.outcome x.outcome
unfolding read_item one.read_selector one.read_piece one.read_syntax
items_alike text rule p i x later names first second =
    let s = syntax_of true p.to (slice_range text p.from p.to) in
    both_alike rule p p i x later names s (one.compounds_of later (s.names ∷ s.others)) (one.compounds_of names (s.names ∷ s.others)) (compounds_names later (s.names ∷ s.others)) (compounds_names names (s.names ∷ s.others)) first second

abbrev made : ℕ → ℕ → ℕ → Outcome → Item
made from to rule o = record { from = from; to = to; rule = rule; outcome = o }

item_is : (x i : Item) → range_of x ≡ range_of i → x.rule ≡ i.rule → x ≡ made i.from i.to i.rule x.outcome
item_is x i place number =
    ap (λ (n : ℕ). made n x.to x.rule x.outcome) (ap (λ (r : Range). r.from) place) ∙ ap (λ (n : ℕ). made i.from n x.rule x.outcome) (ap (λ (r : Range). r.to) place) ∙ ap (λ (n : ℕ). made i.from i.to n x.outcome) number

same_left : (names later : List Named) (text wide : List ℕ) (i j : Item) → slice_range wide j.from j.to ≡ bytes_at text i → j.from + length (bytes_at text i) ≡ j.to → i.from + length (bytes_at text i) ≡ i.to → IsKnownIn wide names j → read_item text i.rule later (range_of i) ≡ (later, Ok i)
    → (o : Outcome) × IsRead names text i o × IsSameOutcome j.from j.outcome i.from o
same_left names later text wide i j slice first second known read =
    let again : IsReadAt names j i.rule (range_of i) (read_item text i.rule names (range_of i)) =
    item_again wide text names names j i.rule (range_of i) (length (bytes_at text i)) known (front_itself names names refl) slice (ap length slice) first second
    in (
      again.item.outcome,
      record {
        reads = again.read ∙ ap (λ (x : Item). (names, Ok x)) (item_is again.item i again.place again.number);
        alike = items_alike text i.rule (range_of i) i again.item later names read again.read;
      },
      again.outcome,
    )

-- ---- all of them

item_by : (names later : List Named) (text wide : List ℕ) (i j : Item) → HowWide text i → IsPair (widened_item text) wide i j → i.from + length (bytes_at text i) ≡ i.to → IsKnownIn wide names j → IsKnownIn text later i → IsSameItem names text wide i j
item_by names later text wide i j (is_wide w are is new none few) pair size known own = record {
  rule = pair.rule;
  bytes = pair.bytes;
  left = subst (IsLeft names text i j) (sym is) (wide_left names text wide i j w are (pair.bytes ∙ new) none few (known names (front_itself names names refl)));
}
item_by names later text wide i j (is_same is new) pair size known own = record {
  rule = pair.rule;
  bytes = pair.bytes;
  left = subst (IsLeft names text i j) (sym is)
      (same_left names later text wide i j (pair.bytes ∙ new) (ap (λ (x : List ℕ). j.from + length x) (sym new) ∙ pair.size) size known (own later (front_itself later later refl)));
}

pub items_same : (names later : List Named) (text wide : List ℕ) (at : ℕ) (is js : List Item) → AreApart at (length text) (map range_of is) → ArePairs (widened_item text) wide is js → AreKnownIn wide names js → AreKnownIn text later is → AreSameItems names text wide is js
items_same names later text wide at [] [] apart pairs known own = tt
items_same names later text wide at [] (j ∷ js) apart pairs known own = absurd pairs
items_same names later text wide at (i ∷ is) [] apart pairs known own = absurd pairs
items_same names later text wide at (i ∷ is) (j ∷ js) apart pairs known own =
    let high = in_order i.to (length text) (map range_of is) apart.2 in
    let left = length-drop i.from text in
    let count : length (bytes_at text i) ≡ i.to - i.from = length-take-le (i.to - i.from) (drop i.from text) (omega (arith, apart.1, high)) in
    (item_by names later text wide i j (how_wide text i) pairs.0 (omega (arith, count, apart.1)) known.0 own.0, items_same names later text wide i.to is js apart.2 pairs.1 known.1 own.1)
