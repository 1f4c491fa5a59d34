-- A widened sheet in pieces, and the way back.
use Rattle.std.proofs.Common.{◌≡◌, ℕ, suc, ◌==◌, not, nat_le, Bool, true, false, nat_eq, List, [], ◌∷◌, ◌++◌, length, map, drop, slice_range, codes, Option, Some, None, Result, Ok, Err, refl, sym, ap, ◌∙◌, subst, arith, inl, inr, append-nil, append_assoc}
use Rattle.std.specs.List.{starts_with, list_any}
use Rattle.std.specs.Str.Lossy.{utf8_valid_len}
use Rattle.std.proofs.lemmas.Bool.{cases_Bool, and_parts}
use Rattle.std.proofs.lemmas.List.Folds.{drop_split}
use Rattle.std.proofs.lemmas.Bool.Decides.{nat_tests}
use Rattle.tp_base.specs.Names.{Named}
use Rattle.tp_base.specs.declared.places.TheConstants.{MOST_BYTES}
use Rattle.sel_text.specs.declared.faults.TheConstants.{MOST_PARTS}
use Rattle.css_read.specs.declared.faults.SheetFault.{SheetFault}
use Rattle.css_read.specs.declared.faults.SheetFault.TheVariants.{NotUtf8}
use Rattle.css_read.specs.Order.{AreApart, range_of}
use Rattle.css_read.specs.Reading.{read_sheet}
use Rattle.css_read.specs.Sheets.{Outcome, judged, skipped, Item, Sheet}
use Rattle.css_read.proofs.SheetOrder.{sheet_in_order}
use Rattle.widen_sheet.specs.declared.marks.Mark.TheVariants as mark
use Rattle.widen_sheet.specs.Wide.{Wide, spelled, opening, closing, slots_from, has, from_bytes, compounds_left, kinds, widened_text, can_widen, is_plain, widens, bytes_at, wide_of, widened_item, widened_from, widened, within_limit, widen_sheet, widen_read, widen, back_from, back, GoesBack}
use Rattle.widen_sheet.proofs.PieceLemmas.{Piece, out_of, text_of, AreWhole, byte, marked, goes_back}
use Rattle.widen_sheet.proofs.SlotPieces.{bytes_of, out_bytes, text_bytes, whole_bytes, pieces, texts, out_is, text_is, whole_is, slot_texts}
use Rattle.widen_sheet.proofs.WholeLemmas.{whole_text}

-- a text with marks, and the one that it stands for
pub record IsPieces (out text : List ℕ) : Type 0 where
  pub parts : List Piece
  pub spelt : out_of parts ≡ out
  pub stands : text_of parts ≡ text
  pub whole : AreWhole parts

pub plain : (bs : List ℕ) → IsPieces bs bs
plain bs = record { parts = bytes_of bs ++ []; spelt = out_bytes bs [] ∙ append-nil bs; stands = text_bytes bs [] ∙ append-nil bs; whole = whole_bytes bs [] tt }

-- ---- one after the other

pub out_both : (ps qs : List Piece) → out_of (ps ++ qs) ≡ out_of ps ++ out_of qs
out_both [] qs = refl
out_both (byte b ∷ ps) qs = ap (λ (r : List ℕ). b ∷ r) (out_both ps qs)
out_both (marked m own ∷ ps) qs = rw (out_both ps qs) (sym (append_assoc (opening m) (own ++ (closing m ++ out_of ps)) (out_of qs) ∙ ap (λ (r : List ℕ). opening m ++ r) (append_assoc own (closing m ++ out_of ps) (out_of qs) ∙ ap (λ (r : List ℕ). own ++ r) (append_assoc (closing m) (out_of ps) (out_of qs)))))

pub text_both : (ps qs : List Piece) → text_of (ps ++ qs) ≡ text_of ps ++ text_of qs
text_both [] qs = refl
text_both (byte b ∷ ps) qs = ap (λ (r : List ℕ). b ∷ r) (text_both ps qs)
text_both (marked m own ∷ ps) qs = ap (λ (r : List ℕ). own ++ r) (text_both ps qs) ∙ sym (append_assoc own (text_of ps) (text_of qs))

pub whole_both : (ps qs : List Piece) → AreWhole ps → AreWhole qs → AreWhole (ps ++ qs)
whole_both [] qs are others = others
whole_both (byte b ∷ ps) qs are others = whole_both ps qs are others
whole_both (marked m own ∷ ps) qs are others = (are.0, whole_both ps qs are.1 others)

pub both : (out text later rest : List ℕ) → IsPieces out text → IsPieces later rest → IsPieces (out ++ later) (text ++ rest)
both out text later rest a b = record {
  parts = a.parts ++ b.parts;
  spelt = out_both a.parts b.parts ∙ ap (λ (r : List ℕ). r ++ out_of b.parts) a.spelt ∙ ap (λ (r : List ℕ). out ++ r) b.spelt;
  stands = text_both a.parts b.parts ∙ ap (λ (r : List ℕ). r ++ text_of b.parts) a.stands ∙ ap (λ (r : List ℕ). text ++ r) b.stands;
  whole = whole_both a.parts b.parts a.whole b.whole;
}

-- ---- a selector

not_so : (b : Bool) → not b ≡ true → b ≡ false
not_so true is = cc
not_so false is = refl

plain_parts : (bs : List ℕ) → is_plain bs ≡ true → has (codes "*/") bs ≡ false
unfolding is_plain
plain_parts bs is = not_so (has (codes "*/") bs) (and_parts (not (list_any (λ b. b == 92) bs)) (not (has (codes "*/") bs)) is).1

pub widens_plain : (o : Outcome) (bs : List ℕ) → widens o bs ≡ true → has (codes "*/") bs ≡ false
widens_plain (judged s) bs is = cc
widens_plain (skipped why at) bs is = plain_parts bs (and_parts (can_widen why) (is_plain bs) is).1

spelled_pieces : (bs : List ℕ) (w : Wide) → wide_of bs ≡ Some w → has (codes "*/") bs ≡ false → IsPieces (spelled w) bs
spelled_pieces bs w is none =
    let all : texts (slots_from mark.Inside w) ≡ bs = slot_texts w mark.Inside ∙ whole_text bs true 0 w is in
    record {
      parts = pieces None (slots_from mark.Inside w);
      spelt = sym (out_is (slots_from mark.Inside w) None);
      stands = sym (text_is (slots_from mark.Inside w) None) ∙ all;
      whole = whole_is (slots_from mark.Inside w) None (rw all none);
    }

text_pieces : (bs : List ℕ) (o : Option Wide) → wide_of bs ≡ o → has (codes "*/") bs ≡ false → IsPieces (widened_text bs o) bs
text_pieces bs None is none = plain bs
text_pieces bs (Some w) is none = elim (cases_Bool (nat_le (compounds_left (kinds w)) MOST_PARTS)) [
  | inl yes' ↦ rw yes' (spelled_pieces bs w is none)
  | inr other ↦ rw other (plain bs)
]

pub item_pieces : (text : List ℕ) (i : Item) → IsPieces (widened_item text i) (bytes_at text i)
unfolding widened_item
item_pieces text i = elim (cases_Bool (widens i.outcome (bytes_at text i))) [
  | inl yes' ↦ rw yes' (text_pieces (bytes_at text i) (wide_of (bytes_at text i)) refl (widens_plain i.outcome (bytes_at text i) yes'))
  | inr other ↦ rw other (plain (bytes_at text i))
]

-- ---- a sheet

pub sheet_pieces : (text : List ℕ) (at : ℕ) (items : List Item) → AreApart at (length text) (map range_of items) → IsPieces (widened_from text at items) (drop at text)
sheet_pieces text at [] apart = plain (drop at text)
sheet_pieces text at (i ∷ items) apart =
    let whole : slice_range text at i.from ++ (bytes_at text i ++ drop i.to text) ≡ drop at text =
    ap (λ (r : List ℕ). slice_range text at i.from ++ r) (sym (drop_split text i.from i.to apart.1)) ∙ sym (drop_split text at i.from apart.0) in
    subst (λ (r : List ℕ). IsPieces (widened_from text at (i ∷ items)) r) whole
    (both (slice_range text at i.from) (slice_range text at i.from) _ _ (plain (slice_range text at i.from)) (both (widened_item text i) (bytes_at text i) _ _ (item_pieces text i) (sheet_pieces text i.to items apart.2)))

not_read : (names later : List Named) (e : SheetFault) (s : Sheet) → ◌≡◌ {A = List Named × Result Sheet SheetFault} (names, Err e) (later, Ok s) → ⊥
not_read names later e s is = let same : Err e ≡ Ok s = ap (λ (p : List Named × Result Sheet SheetFault). p.1) is in cc

in_order : (text : List ℕ) (names later : List Named) (s : Sheet) → read_sheet text names ≡ (later, Ok s) → AreApart 0 (length text) (map range_of s.items)
unfolding read_sheet
in_order text names later s is = elim (cases_Bool (utf8_valid_len text == length text)) [
  | inl yes' ↦ (sheet_in_order text names later s (rw yes' at is)).items.apart
  | inr other ↦ absurd (not_read names later (NotUtf8 (utf8_valid_len text)) s (rw other at is))
]

-- ---- back

from_none : (p bs : List ℕ) → length (from_bytes p bs) ≡ 0 → has p bs ≡ false
unfolding from_bytes has
from_none p [] is = refl
from_none p (b ∷ bs) is = elim (cases_Bool (starts_with nat_eq (b ∷ bs) p)) [
  | inl yes' ↦ absurd (some (rw yes' at is))
  | inr other ↦ rw other (from_none p bs (rw other at is))
]
  where
    some : suc (length bs) ≡ 0 → ⊥
    some e = omega (arith, e)

back_whole : (text out : List ℕ) → IsPieces out text → has (codes "/*~") text ≡ false → back out ≡ Ok text
unfolding back
back_whole text out is none = ap (back_from (length out) false 0) (sym is.spelt) ∙ goes_back (length out) false is.parts is.whole (rw is.stands none) ∙ ap Ok is.stands

pub limited : (out wide : List ℕ) → within_limit out ≡ Ok wide → out ≡ wide
limited out wide is = elim (cases_Bool (nat_le (length out) MOST_BYTES)) [
  | inl yes' ↦ let e = rw yes' at is in let same : out ≡ wide = cc in same
  | inr other ↦ let e = rw other at is in cc
]

from_sheet : (text wide : List ℕ) (s : Sheet) → AreApart 0 (length text) (map range_of s.items) → widen_sheet text s ≡ Ok wide → back wide ≡ Ok text
unfolding widen_sheet widened
from_sheet text wide s apart is = elim (cases_Bool (length (from_bytes (codes "/*~") text) == 0)) [
  | inl yes' ↦
      let none : length (from_bytes (codes "/*~") text) ≡ 0 = grind (arith, nat_tests) in
      subst (λ (out : List ℕ). back out ≡ Ok text) (limited (widened text s) wide (rw yes' at is)) (back_whole text (widened text s) (sheet_pieces text 0 s.items apart) (from_none (codes "/*~") text none))
  | inr other ↦ let e = rw other at is in cc
]

from_read : (text wide : List ℕ) (r : List Named × Result Sheet SheetFault) → read_sheet text [] ≡ r → widen_read text r.1 ≡ Ok wide → back wide ≡ Ok text
from_read text wide (later, Ok s) read is = from_sheet text wide s (in_order text [] later s read) is
from_read text wide (later, Err e) read is = cc

pub goes_back_from : (text : List ℕ) → GoesBack text
unfolding widen
goes_back_from text wide is = from_read text wide (read_sheet text []) refl is
