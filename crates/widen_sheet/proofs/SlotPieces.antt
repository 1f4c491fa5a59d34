-- The tokens of a selector with their marks, in pieces.
use Rattle.std.proofs.Common.{◌≡◌, ℕ, ◌==◌, true, false, nat_eq, if◌then◌else◌, List, [], ◌∷◌, ◌++◌, codes, Option, Some, None, refl, sym, ap, ◌∙◌, append_assoc, append-nil, inl, inr}
use Rattle.std.specs.List.{starts_with}
use Rattle.std.proofs.lemmas.Bool.{cases_Bool, and_parts}
use Rattle.widen_sheet.specs.declared.marks.Mark.{Mark}
use Rattle.widen_sheet.specs.declared.marks.Mark.TheVariants as mark
use Rattle.widen_sheet.specs.Wide.{Slot, Wide, letter, opening, closing, has, between, slots_from, spelled_from}
use Rattle.widen_sheet.proofs.PieceLemmas.{Piece, byte, marked, out_of, text_of, AreWhole, has_here, has_later, has_right}

-- ---- bytes

abbrev pub bytes_of : List ℕ → List Piece
bytes_of [] = []
bytes_of (b ∷ bs) = byte b ∷ bytes_of bs

pub out_bytes : (bs : List ℕ) (ps : List Piece) → out_of (bytes_of bs ++ ps) ≡ bs ++ out_of ps
out_bytes [] ps = refl
out_bytes (b ∷ bs) ps = ap (λ (r : List ℕ). b ∷ r) (out_bytes bs ps)

pub text_bytes : (bs : List ℕ) (ps : List Piece) → text_of (bytes_of bs ++ ps) ≡ bs ++ text_of ps
text_bytes [] ps = refl
text_bytes (b ∷ bs) ps = ap (λ (r : List ℕ). b ∷ r) (text_bytes bs ps)

pub whole_bytes : (bs : List ℕ) (ps : List Piece) → AreWhole ps → AreWhole (bytes_of bs ++ ps)
whole_bytes [] ps are = are
whole_bytes (b ∷ bs) ps are = whole_bytes bs ps are

-- ---- what stands in the first part of a text

starts_more : (p xs ys : List ℕ) → starts_with nat_eq xs p ≡ true → starts_with nat_eq (xs ++ ys) p ≡ true
starts_more [] xs ys is = refl
starts_more (c ∷ p) [] ys is = cc
starts_more (c ∷ p) (x ∷ xs) ys is = let both = and_parts (nat_eq c x) (starts_with nat_eq xs p) is in rw both.0 (starts_more p xs ys both.1)

pub has_left : (p xs ys : List ℕ) → has p (xs ++ ys) ≡ false → has p xs ≡ false
unfolding has
has_left p [] ys none = refl
has_left p (x ∷ xs) ys none = elim (cases_Bool (starts_with nat_eq (x ∷ xs) p)) [
  | inl yes' ↦ let e : true ≡ false = sym (starts_more p (x ∷ xs) ys yes') ∙ has_here p x (xs ++ ys) none in cc
  | inr other ↦ rw other (has_left p xs ys (has_later p x (xs ++ ys) none))
]

-- ---- slots

-- the mark that is open, and what stands in it so far
abbrev pub Prior : Type 0
Prior = Option (Mark × List ℕ)

abbrev pub mark_in : Prior → Option Mark
mark_in None = None
mark_in (Some p) = Some p.0

abbrev pub begun : Prior → List ℕ
begun None = []
begun (Some p) = opening p.0 ++ p.1

abbrev pub owned : Prior → List ℕ
owned None = []
owned (Some p) = p.1

abbrev pub finished : Prior → List Piece
finished None = []
finished (Some p) = marked p.0 p.1 ∷ []

abbrev pub next : Prior → Option Mark → List ℕ → (Prior → List Piece) → List Piece
next None None text f = bytes_of text ++ f None
next None (Some n) text f = f (Some (n, text))
next (Some p) None text f = marked p.0 p.1 ∷ (bytes_of text ++ f None)
next (Some p) (Some n) text f = if letter p.0 == letter n then f (Some (p.0, p.1 ++ text)) else marked p.0 p.1 ∷ f (Some (n, text))

abbrev pub pieces : Prior → List Slot → List Piece
pieces prior [] = finished prior
pieces prior (s ∷ ss) = next prior s.mark s.text (λ (p : Prior). pieces p ss)

abbrev pub texts : List Slot → List ℕ
texts [] = []
texts (s ∷ ss) = s.text ++ texts ss

same_letter : (m n : Mark) → (letter m == letter n) ≡ true → m ≡ n
same_letter mark.Part mark.Part is = refl
same_letter mark.Part mark.Inside is = cc
same_letter mark.Part mark.Child is = cc
same_letter mark.Inside mark.Part is = cc
same_letter mark.Inside mark.Inside is = refl
same_letter mark.Inside mark.Child is = cc
same_letter mark.Child mark.Part is = cc
same_letter mark.Child mark.Inside is = cc
same_letter mark.Child mark.Child is = refl

-- ---- with the marks

out_step : (prior : Prior) (found : Option Mark) (text sp : List ℕ) (f : Prior → List Piece) → ((p : Prior) → mark_in p ≡ found → begun p ++ sp ≡ out_of (f p)) → begun prior ++ (between (mark_in prior) found ++ (text ++ sp)) ≡ out_of (next prior found text f)
out_step None None text sp f more = ap (λ (r : List ℕ). text ++ r) (more None refl) ∙ sym (out_bytes text (f None))
out_step None (Some n) text sp f more = sym (append_assoc (opening n) text sp) ∙ more (Some (n, text)) refl
out_step (Some p) None text sp f more =
    append_assoc (opening p.0) p.1 (closing p.0 ++ (text ++ sp))
    ∙ ap (λ (r : List ℕ). opening p.0 ++ (p.1 ++ (closing p.0 ++ r))) (ap (λ (r : List ℕ). text ++ r) (more None refl) ∙ sym (out_bytes text (f None)))
out_step (Some p) (Some n) text sp f more = elim (cases_Bool (letter p.0 == letter n)) [
  | inl e ↦ rw e (append_assoc (opening p.0) p.1 (text ++ sp) ∙ ap (λ (r : List ℕ). opening p.0 ++ r) (sym (append_assoc p.1 text sp)) ∙ sym (append_assoc (opening p.0) (p.1 ++ text) sp)
      ∙ more (Some (p.0, p.1 ++ text)) (ap Some (same_letter p.0 n e)))
  | inr e ↦ rw e (append_assoc (opening p.0) p.1 ((closing p.0 ++ opening n) ++ (text ++ sp))
      ∙ ap (λ (r : List ℕ). opening p.0 ++ (p.1 ++ r)) (append_assoc (closing p.0) (opening n) (text ++ sp) ∙ ap (λ (r : List ℕ). closing p.0 ++ r) (sym (append_assoc (opening n) text sp) ∙ more (Some (n, text)) refl)))
]

pub out_is : (ss : List Slot) (prior : Prior) → begun prior ++ spelled_from (mark_in prior) ss ≡ out_of (pieces prior ss)
out_is [] None = refl
out_is [] (Some p) = append_assoc (opening p.0) p.1 (closing p.0) ∙ ap (λ (r : List ℕ). opening p.0 ++ (p.1 ++ r)) (sym (append-nil (closing p.0)))
out_is (s ∷ ss) prior = out_step prior s.mark s.text (spelled_from s.mark ss) (λ (p : Prior). pieces p ss) (λ (p : Prior) (is : mark_in p ≡ s.mark). ap (λ (m : Option Mark). begun p ++ spelled_from m ss) (sym is) ∙ out_is ss p)

-- ---- without them

text_step : (prior : Prior) (found : Option Mark) (text rest : List ℕ) (f : Prior → List Piece) → ((p : Prior) → owned p ++ rest ≡ text_of (f p)) → owned prior ++ (text ++ rest) ≡ text_of (next prior found text f)
text_step None None text rest f more = ap (λ (r : List ℕ). text ++ r) (more None) ∙ sym (text_bytes text (f None))
text_step None (Some n) text rest f more = more (Some (n, text))
text_step (Some p) None text rest f more = ap (λ (r : List ℕ). p.1 ++ r) (ap (λ (r : List ℕ). text ++ r) (more None) ∙ sym (text_bytes text (f None)))
text_step (Some p) (Some n) text rest f more = elim (cases_Bool (letter p.0 == letter n)) [
  | inl e ↦ rw e (sym (append_assoc p.1 text rest) ∙ more (Some (p.0, p.1 ++ text)))
  | inr e ↦ rw e (ap (λ (r : List ℕ). p.1 ++ r) (more (Some (n, text))))
]

pub text_is : (ss : List Slot) (prior : Prior) → owned prior ++ texts ss ≡ text_of (pieces prior ss)
text_is [] None = refl
text_is [] (Some p) = refl
text_is (s ∷ ss) prior = text_step prior s.mark s.text (texts ss) (λ (p : Prior). pieces p ss) (λ (p : Prior). text_is ss p)

-- ---- no comment ends in them

close : List ℕ
close = codes "*/"

whole_step : (prior : Prior) (found : Option Mark) (text rest : List ℕ) (f : Prior → List Piece) → has (codes "*/") (owned prior ++ (text ++ rest)) ≡ false → ((p : Prior) → has (codes "*/") (owned p ++ rest) ≡ false → AreWhole (f p))
    → AreWhole (next prior found text f)
whole_step None None text rest f none more = whole_bytes text (f None) (more None (has_right (codes "*/") text rest none))
whole_step None (Some n) text rest f none more = more (Some (n, text)) none
whole_step (Some p) None text rest f none more =
    (has_left (codes "*/") p.1 (text ++ rest) none, whole_bytes text (f None) (more None (has_right (codes "*/") text rest (has_right (codes "*/") p.1 (text ++ rest) none))))
whole_step (Some p) (Some n) text rest f none more = elim (cases_Bool (letter p.0 == letter n)) [
  | inl e ↦ rw e (more (Some (p.0, p.1 ++ text)) (ap (has (codes "*/")) (append_assoc p.1 text rest) ∙ none))
  | inr e ↦ rw e (has_left (codes "*/") p.1 (text ++ rest) none, more (Some (n, text)) (has_right (codes "*/") p.1 (text ++ rest) none))
]

pub whole_is : (ss : List Slot) (prior : Prior) → has (codes "*/") (owned prior ++ texts ss) ≡ false → AreWhole (pieces prior ss)
whole_is [] None none = tt
whole_is [] (Some p) none = (ap (has (codes "*/")) (sym (append-nil p.1)) ∙ none, tt)
whole_is (s ∷ ss) prior none = whole_step prior s.mark s.text (texts ss) (λ (p : Prior). pieces p ss) none (λ (p : Prior) (later : has (codes "*/") (owned p ++ texts ss) ≡ false). whole_is ss p later)

-- ---- tokens

abbrev pub words : Wide → List ℕ
words [] = []
words (t ∷ ts) = t.text ++ words ts

pub slot_texts : (w : Wide) (run : Mark) → texts (slots_from run w) ≡ words w
slot_texts [] run = refl
slot_texts (t ∷ ts) run = ap (λ (r : List ℕ). t.text ++ r) (slot_texts ts _)
