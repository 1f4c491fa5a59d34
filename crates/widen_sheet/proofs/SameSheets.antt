-- A widened sheet is the same sheet, with what is left of its selectors.
use Rattle.std.proofs.Common.{◌≡◌, ℕ, ◌==◌, true, nat_eq, List, [], ◌∷◌, ◌++◌, length, map, slice_range, codes, Result, Ok, refl, sym, ap, ◌∙◌, subst, inl, inr}
use Rattle.std.specs.List.{starts_with}
use Rattle.std.proofs.lemmas.Bool.{cases_Bool}
use Rattle.tp_base.specs.Names.{Named}
use Rattle.css_read.specs.declared.faults.SheetFault.{SheetFault}
use Rattle.css_read.specs.Order.{AreApart, range_of}
use Rattle.css_read.specs.Reading.{read_sheet}
use Rattle.css_read.specs.Rules.{rules_of}
use Rattle.css_read.specs.Sheets.{Item, Sheet}
use Rattle.css_read.proofs.AgainLemmas.{sheet_known}
use Rattle.css_read.proofs.PrunedText.{accepted}
use Rattle.css_read.proofs.SheetOrder.{sheet_in_order}
use Rattle.widen_sheet.specs.SameSheet.{HasSameSheet}
use Rattle.widen_sheet.specs.Wide.{from_bytes, widened_item, widened_from, widened, widen_sheet, widen_read, widen}
use Rattle.widen_sheet.proofs.ChangedSheets.{has_mark, IsSameSheet, sheet_changed}
use Rattle.widen_sheet.proofs.ChangedTexts.{replaced}
use Rattle.widen_sheet.proofs.PieceLemmas.{same_front, text_of}
use Rattle.widen_sheet.proofs.SameItems.{has_change, items_same}
use Rattle.widen_sheet.proofs.SheetPieces.{IsPieces, sheet_pieces, limited}

same_text : (text : List ℕ) (at : ℕ) (items : List Item) → replaced (widened_item text) text at items ≡ widened_from text at items
same_text text at [] = refl
same_text text at (i ∷ items) = ap (λ (x : List ℕ). slice_range text at i.from ++ (widened_item text i ++ x)) (same_text text i.to items)

-- no byte order mark comes to the front
mark_kept : (text wide : List ℕ) → IsPieces wide text → has_mark wide ≡ true → has_mark text ≡ true
mark_kept text wide is there =
    let front : starts_with nat_eq (text_of is.parts) (0xEF ∷ 0xBB ∷ 0xBF ∷ []) ≡ true = same_front (0xEF ∷ 0xBB ∷ 0xBF ∷ []) is.parts (refl, (refl, (refl, tt))) (ap has_mark is.spelt ∙ there) in
    ap has_mark (sym is.stands) ∙ front

widened_is : (text wide : List ℕ) (s : Sheet) → widen_sheet text s ≡ Ok wide → widened text s ≡ wide
unfolding widen_sheet
widened_is text wide s is = elim (cases_Bool (length (from_bytes (codes "/*~") text) == 0)) [
  | inl yes' ↦ limited (widened text s) wide (rw yes' at is)
  | inr other ↦ let e = rw other at is in cc
]

from_read : (text wide : List ℕ) (later : List Named) (s : Sheet) → read_sheet text [] ≡ (later, Ok s) → widen text ≡ Ok wide → widen_sheet text s ≡ Ok wide
unfolding widen
from_read text wide later s read is = ap (λ (r : List Named × Result Sheet SheetFault). widen_read text r.1) (sym read) ∙ is

-- what both sheets have in common, as sheets in which other selectors stand
pub sheet_same : (text wide : List ℕ) (later others last : List Named) (s again : Sheet) → widen text ≡ Ok wide → read_sheet text [] ≡ (later, Ok s) → read_sheet wide others ≡ (last, Ok again) → IsSameSheet (widened_item text) text wide s again
unfolding widened
sheet_same text wide later others last s again is read read_again =
    let first = (accepted text [] later s read).read in
    let second = (accepted wide others last again read_again).read in
    let apart : AreApart 0 (length text) (map range_of s.items) = (sheet_in_order text [] later s first).items.apart in
    let whole : widened_from text 0 s.items ≡ wide = widened_is text wide s (from_read text wide later s read is) in
    let pieces : IsPieces wide text = subst (λ (x : List ℕ). IsPieces x text) whole (sheet_pieces text 0 s.items apart) in
    sheet_changed (widened_item text) text wide (has_change text) [] later others last s again first (same_text text 0 s.items ∙ whole) (mark_kept text wide pieces) second

pub same_sheet : (text : List ℕ) → HasSameSheet text
same_sheet text wide later others last s again is read read_again =
    let first = (accepted text [] later s read).read in
    let second = (accepted wide others last again read_again).read in
    let apart : AreApart 0 (length text) (map range_of s.items) = (sheet_in_order text [] later s first).items.apart in
    let same = sheet_same text wide later others last s again is read read_again in
    record {
      items = items_same last later text wide 0 s.items again.items apart same.pairs (sheet_known wide others last (rules_of wide) again second) (sheet_known text [] later (rules_of text) s first);
      rules = same.rules;
      scopes = same.scopes;
      owners = same.owners;
    }
