-- What is left of a sheet that was read: spans that are read as before, no mark in front that wasn't there, and UTF-8.
use Rattle.std.proofs.Common.{◌≡◌, ℕ, Bool, true, false, List, [], ◌∷◌, length, slice_range, Result, Ok, Err, refl, ap, ◌∙◌}
use Rattle.std.specs.Str.{IsUtf8}
use Rattle.tp_base.specs.Names.{Named}
use Rattle.tp_base.proofs.Fronts.{front_itself}
use Rattle.sel_text.specs.Reading as one
use Rattle.sel_text.specs.Selectors.{Selector}
use Rattle.sel_text.specs.declared.faults.SelFault.TheVariants as sel
use Rattle.css_read.specs.declared.faults.SheetFault.{SheetFault}
use Rattle.css_read.specs.declared.faults.SheetFault.TheVariants.{TooManyAtoms, Memory}
use Rattle.css_read.specs.declared.sheets.Range.{Range}
use Rattle.css_read.specs.Order.{range_of}
use Rattle.css_read.specs.Pruned.{is_skipped, with_flags, pruned}
use Rattle.css_read.specs.Reading.{Ending, item_from, read_item, add_rules, empty_sheet, read_sheet}
use Rattle.css_read.specs.Rules.{rules_of}
use Rattle.css_read.specs.Sheets.{skipped, Item, Sheet}
use Rattle.css_read.proofs.AgainLemmas.{AreKnownIn, sheet_known}
use Rattle.css_read.proofs.ClosedLemmas.{selector_closes}
use Rattle.css_read.proofs.MarkLemmas.{keeps_mark}
use Rattle.css_read.proofs.PrunedLemmas.{IsPrunedTo, KeepsMark, pruned_left}
use Rattle.css_read.proofs.PrunedText.{accepted, pruned_utf8}
use Rattle.css_read.proofs.TameLemmas.{ClosesStrings, AreClosed}

-- ---- what is judged closes its strings

not_item : (e : SheetFault) (i : Item) → ◌≡◌ {A = Result Item SheetFault} (Err e) (Ok i) → ⊥
not_item e i is = cc

same_item : (i j : Item) → ◌≡◌ {A = Result Item SheetFault} (Ok i) (Ok j) → i ≡ j
same_item i j is = cc

item_closes : (text : List ℕ) (rule : ℕ) (p : Range) (names known : List Named) (i : Item) (e : one.Ending Selector) → one.read_selector text p.from p.to names ≡ e → item_from rule p e ≡ (known, Ok i) → is_skipped i.outcome ≡ false
    → ClosesStrings (slice_range text p.from p.to)
item_closes text rule p names known i (later, Ok s) read is free = selector_closes text p.from p.to names later s read
item_closes text rule p names known i (later, Err (sel.Skipped why at)) read is free =
    let item : Item = record { from = p.from; to = p.to; rule = rule; outcome = skipped why at } in
    let same : item ≡ i = same_item item i (ap (λ (x : Ending Item). x.1) is) in
    let wrong = ap (λ (j : Item). is_skipped j.outcome) same ∙ free in
    absurd (both wrong)
  where
    both : true ≡ false → ⊥
    both same = cc
item_closes text rule p names known i (later, Err sel.TooManyAtoms) read is free = absurd (not_item (TooManyAtoms p.from) i (ap (λ (x : Ending Item). x.1) is))
item_closes text rule p names known i (later, Err sel.Memory) read is free = absurd (not_item Memory i (ap (λ (x : Ending Item). x.1) is))

pub are_closed : (text : List ℕ) (names : List Named) (items : List Item) (flags : List Bool) → AreKnownIn text names items → AreClosed text (with_flags items flags)
unfolding read_item
are_closed text names [] flags known = tt
are_closed text names (i ∷ items) [] known = tt
are_closed text names (i ∷ items) (g ∷ flags) known =
    (λ free. item_closes text i.rule (range_of i) names names i (one.read_selector text i.from i.to names) refl (known.0 names (front_itself names names refl)) free, are_closed text names items flags known.1)

pub spans_left : (text : List ℕ) (names later : List Named) (sheet : Sheet) (flags : List Bool) → add_rules text empty_sheet names (rules_of text) ≡ (later, Ok sheet) → length flags ≡ length sheet.items → IsPrunedTo text sheet flags
spans_left text names later sheet flags read count =
    pruned_left text names later sheet flags read count (are_closed text later sheet.items flags (sheet_known text names later (rules_of text) sheet read))

-- ---- all of it

pub record IsLeftOf (text : List ℕ) (sheet : Sheet) (flags : List Bool) : Type 0 where
  pub spans : IsPrunedTo text sheet flags
  pub mark : KeepsMark text sheet flags spans
  pub utf8 : IsUtf8 (pruned text sheet flags)

pub sheet_left : (text : List ℕ) (names later : List Named) (sheet : Sheet) (flags : List Bool) → read_sheet text names ≡ (later, Ok sheet) → length flags ≡ length sheet.items → IsLeftOf text sheet flags
sheet_left text names later sheet flags read count =
    let is = accepted text names later sheet read in
    let spans = spans_left text names later sheet flags is.read count in
    record { spans = spans; mark = keeps_mark text names later sheet flags is.utf8 is.read count spans; utf8 = pruned_utf8 text names later sheet flags is.utf8 is.read }
