-- A text in pieces without ranges that begin and end between two of them, and the text that it stands for without the same.
use Rattle.std.proofs.Common.{◌≡◌, ◌⊎◌, ℕ, ◌+◌, ◌≤◌, ◌<◌, ◌&&◌, ◌||◌, nat_le, nat_lt, Bool, true, false, if◌then◌else◌, List, [], ◌∷◌, ◌++◌, length, refl, sym, ap, ◌∙◌, subst, inl, inr, arith, length-append, append_assoc}
use Rattle.std.proofs.lemmas.Bool.Decides.{nat_tests}
use Rattle.css_read.specs.declared.sheets.Range.{Range}
use Rattle.css_read.specs.Pruned.{is_in, without}
use Rattle.css_read.proofs.CutLemmas.{IsCut, without_append, kept_all, cut_all}
use Rattle.widen_sheet.specs.Wide.{opening, closing}
use Rattle.widen_sheet.proofs.PieceLemmas.{Piece, byte, marked, out_of, text_of, AreWhole}

-- ---- one piece

abbrev pub out_one : Piece → List ℕ
out_one (byte b) = b ∷ []
out_one (marked m own) = opening m ++ (own ++ closing m)

abbrev pub text_one : Piece → List ℕ
text_one (byte b) = b ∷ []
text_one (marked m own) = own

pub out_cons : (p : Piece) (ps : List Piece) → out_of (p ∷ ps) ≡ out_one p ++ out_of ps
out_cons (byte b) ps = refl
out_cons (marked m own) ps = sym (append_assoc (opening m) (own ++ closing m) (out_of ps) ∙ ap (λ (r : List ℕ). opening m ++ r) (append_assoc own (closing m) (out_of ps)))

pub text_cons : (p : Piece) (ps : List Piece) → text_of (p ∷ ps) ≡ text_one p ++ text_of ps
text_cons (byte b) ps = refl
text_cons (marked m own) ps = refl

abbrev pub out_size : Piece → ℕ
out_size p = length (out_one p)

abbrev pub text_size : Piece → ℕ
text_size p = length (text_one p)

-- ---- offsets between pieces

-- Two offsets that are the same place: in the text with marks, which begins at the offset a, and in the one that it stands for, from c on.
abbrev pub Meets : ℕ → ℕ → List Piece → ℕ → ℕ → Type 0
Meets a c [] e f = (a ≡ e) × (c ≡ f)
Meets a c (p ∷ ps) e f = ((a ≡ e) × (c ≡ f)) ⊎ Meets (a + out_size p) (c + text_size p) ps e f

pub meets_start : (a c : ℕ) (ps : List Piece) (e f : ℕ) → a ≡ e → c ≡ f → Meets a c ps e f
meets_start a c [] e f first second = (first, second)
meets_start a c (p ∷ ps) e f first second = inl (first, second)

pub meets_front : (a c : ℕ) (qs ps : List Piece) (e f : ℕ) → Meets a c qs e f → Meets a c (qs ++ ps) e f
meets_front a c [] ps e f meets = meets_start a c ps e f meets.0 meets.1
meets_front a c (q ∷ qs) ps e f (inl here) = inl here
meets_front a c (q ∷ qs) ps e f (inr later) = inr (meets_front (a + out_size q) (c + text_size q) qs ps e f later)

pub meets_behind : (a c : ℕ) (qs ps : List Piece) (e f : ℕ) → Meets (a + length (out_of qs)) (c + length (text_of qs)) ps e f → Meets a c (qs ++ ps) e f
meets_behind a c [] ps e f meets = let first : a + 0 ≡ a = omega arith in let second : c + 0 ≡ c = omega arith in subst (λ (n : ℕ). Meets n c ps e f) first (subst (λ (n : ℕ). Meets (a + 0) n ps e f) second meets)
meets_behind a c (q ∷ qs) ps e f meets =
    let first : a + length (out_of (q ∷ qs)) ≡ a + out_size q + length (out_of qs) = omega (arith, ap length (out_cons q qs), length-append (out_one q) (out_of qs)) in
    let second : c + length (text_of (q ∷ qs)) ≡ c + text_size q + length (text_of qs) = omega (arith, ap length (text_cons q qs), length-append (text_one q) (text_of qs)) in
    inr (meets_behind (a + out_size q) (c + text_size q) qs ps e f (subst (λ (n : ℕ). Meets n (c + text_size q + length (text_of qs)) ps e f) first (subst (λ (n : ℕ). Meets (a + length (out_of (q ∷ qs))) n ps e f) second meets)))

-- at the first piece, or behind it
abbrev Stands : ℕ → ℕ → List Piece → ℕ → ℕ → Type 0
Stands a c ps e f = ((e ≤ a) × (f ≤ c)) ⊎ Meets a c ps e f

from_start : (a c : ℕ) (ps : List Piece) (e f : ℕ) → Meets a c ps e f → (a ≤ e) × (c ≤ f)
from_start a c [] e f meets = (omega (arith, meets.0), omega (arith, meets.1))
from_start a c (p ∷ ps) e f (inl here) = (omega (arith, here.0), omega (arith, here.1))
from_start a c (p ∷ ps) e f (inr later) = let less = from_start (a + out_size p) (c + text_size p) ps e f later in (omega (arith, less.0), omega (arith, less.1))

stands_later : (a c : ℕ) (p : Piece) (ps : List Piece) (e f : ℕ) → Stands a c (p ∷ ps) e f → Stands (a + out_size p) (c + text_size p) ps e f
stands_later a c p ps e f (inl before) = inl (omega (arith, before.0), omega (arith, before.1))
stands_later a c p ps e f (inr (inl here)) = inl (omega (arith, here.0), omega (arith, here.1))
stands_later a c p ps e f (inr (inr later)) = inr later

-- not inside the first piece
abbrev IsAside : ℕ → ℕ → Piece → ℕ → ℕ → Type 0
IsAside a c p e f = ((e ≤ a) × (f ≤ c)) ⊎ ((a + out_size p ≤ e) × (c + text_size p ≤ f))

aside : (a c : ℕ) (p : Piece) (ps : List Piece) (e f : ℕ) → Stands a c (p ∷ ps) e f → IsAside a c p e f
aside a c p ps e f (inl before) = inl before
aside a c p ps e f (inr (inl here)) = inl (omega (arith, here.0), omega (arith, here.1))
aside a c p ps e f (inr (inr later)) = inr (from_start (a + out_size p) (c + text_size p) ps e f later)

-- ---- ranges that are the same place in both texts

abbrev pub AreTwins : (ℕ → ℕ → Type 0) → List Range → List Range → Type 0
AreTwins M [] [] = Unit {0}
AreTwins M (r ∷ rs) (t ∷ ts) = M r.from t.from × M r.to t.to × AreTwins M rs ts
AreTwins M rs ts = ⊥

pub twins_append : (M : ℕ → ℕ → Type 0) (rs ts qs us : List Range) → AreTwins M rs ts → AreTwins M qs us → AreTwins M (rs ++ qs) (ts ++ us)
twins_append M [] [] qs us first second = second
twins_append M [] (t ∷ ts) qs us first second = absurd first
twins_append M (r ∷ rs) [] qs us first second = absurd first
twins_append M (r ∷ rs) (t ∷ ts) qs us first second = (first.0, first.1, twins_append M rs ts qs us first.2 second)

pub and_same : (x y u v : Bool) → x ≡ y → u ≡ v → (x && u) ≡ (y && v)
and_same x y u v first second = rw (first, second) refl

or_same : (x y u v : Bool) → x ≡ y → u ≡ v → (x || u) ≡ (y || v)
or_same x y u v first second = rw (first, second) refl

pub twins_to : (M N : ℕ → ℕ → Type 0) (rs ts : List Range) → ((e f : ℕ) → M e f → N e f) → AreTwins M rs ts → AreTwins N rs ts
twins_to M N [] [] more twins = tt
twins_to M N [] (t ∷ ts) more twins = absurd twins
twins_to M N (r ∷ rs) [] more twins = absurd twins
twins_to M N (r ∷ rs) (t ∷ ts) more twins = (more r.from t.from twins.0, more r.to t.to twins.1, twins_to M N rs ts more twins.2)

le_here : (k e : ℕ) → e ≤ k → nat_le e k ≡ true
le_here k e less = grind (arith, nat_tests)

le_not : (k e : ℕ) → k < e → nat_le e k ≡ false
le_not k e less = grind (arith, nat_tests)

lt_here : (k e : ℕ) → k < e → nat_lt k e ≡ true
lt_here k e less = grind (arith, nat_tests)

lt_not : (k e : ℕ) → e ≤ k → nat_lt k e ≡ false
lt_not k e less = grind (arith, nat_tests)

-- an offset is before or behind one that lies not inside the piece, by the piece alone
record IsSame (a k n e f : ℕ) : Type 0 where
  le : nat_le e k ≡ nat_le e a
  le_text : nat_le f n ≡ nat_le e a
  lt : nat_lt k e ≡ nat_lt a e
  lt_text : nat_lt n f ≡ nat_lt a e

same_side : (a c : ℕ) (p : Piece) (e f k n : ℕ) → IsAside a c p e f → a ≤ k → k < a + out_size p → c ≤ n → n < c + text_size p → IsSame a k n e f
same_side a c p e f k n (inl before) low high low_text high_text =
    let k_in : e ≤ k = omega (arith, before.0) in
    let n_in : f ≤ n = omega (arith, before.1) in
    record { le = le_here k e k_in ∙ sym (le_here a e before.0); le_text = le_here n f n_in ∙ sym (le_here a e before.0); lt = lt_not k e k_in ∙ sym (lt_not a e before.0); lt_text = lt_not n f n_in ∙ sym (lt_not a e before.0) }
same_side a c p e f k n (inr behind) low high low_text high_text =
    let k_out : k < e = omega (arith, behind.0) in
    let n_out : n < f = omega (arith, behind.1) in
    let a_out : a < e = omega (arith, behind.0) in
    record { le = le_not k e k_out ∙ sym (le_not a e a_out); le_text = le_not n f n_out ∙ sym (le_not a e a_out); lt = lt_here k e k_out ∙ sym (lt_here a e a_out); lt_text = lt_here n f n_out ∙ sym (lt_here a e a_out) }

out_some : (p : Piece) → 0 < out_size p
out_some (byte b) = omega arith
out_some (marked m own) = omega (arith, length-append (opening m) (own ++ closing m))

-- what is cut of a piece is all of it, or nothing
cut_same : (a c : ℕ) (p : Piece) (ps : List Piece) (rs ts : List Range) (k n : ℕ) → AreTwins (Stands a c (p ∷ ps)) rs ts → a ≤ k → k < a + out_size p → c ≤ n → n < c + text_size p → (IsCut rs k ≡ IsCut rs a) × (IsCut ts n ≡ IsCut rs a)
cut_same a c p ps [] [] k n twins low high low_text high_text = (refl, refl)
cut_same a c p ps [] (t ∷ ts) k n twins low high low_text high_text = absurd twins
cut_same a c p ps (r ∷ rs) [] k n twins low high low_text high_text = absurd twins
cut_same a c p ps (r ∷ rs) (t ∷ ts) k n twins low high low_text high_text =
    let later = cut_same a c p ps rs ts k n twins.2 low high low_text high_text in
    let from = same_side a c p r.from t.from k n (aside a c p ps r.from t.from twins.0) low high low_text high_text in
    let to = same_side a c p r.to t.to k n (aside a c p ps r.to t.to twins.1) low high low_text high_text in
    (or_same (is_in k r) (is_in a r) _ _ (and_same _ _ _ _ from.le to.lt) later.0, or_same (is_in n t) (is_in a r) _ _ (and_same _ _ _ _ from.le_text to.lt_text) later.1)

-- the same of the text with marks, also where the piece stands for nothing
cut_out : (a c : ℕ) (p : Piece) (ps : List Piece) (rs ts : List Range) (k : ℕ) → AreTwins (Stands a c (p ∷ ps)) rs ts → a ≤ k → k < a + out_size p → IsCut rs k ≡ IsCut rs a
cut_out a c p ps [] ts k twins low high = refl
cut_out a c p ps (r ∷ rs) [] k twins low high = absurd twins
cut_out a c p ps (r ∷ rs) (t ∷ ts) k twins low high =
    or_same (is_in k r) (is_in a r) _ _ (and_same _ _ _ _ (le_same r.from t.from (aside a c p ps r.from t.from twins.0)) (lt_same r.to t.to (aside a c p ps r.to t.to twins.1))) (cut_out a c p ps rs ts k twins.2 low high)
  where
    le_same : (e f : ℕ) → IsAside a c p e f → nat_le e k ≡ nat_le e a
    le_same e f (inl before) = le_here k e (omega (arith, before.0, low)) ∙ sym (le_here a e before.0)
    le_same e f (inr behind) = le_not k e (omega (arith, behind.0, high)) ∙ sym (le_not a e (omega (arith, behind.0, high, low)))

    lt_same : (e f : ℕ) → IsAside a c p e f → nat_lt k e ≡ nat_lt a e
    lt_same e f (inl before) = lt_not k e (omega (arith, before.0, low)) ∙ sym (lt_not a e before.0)
    lt_same e f (inr behind) = lt_here k e (omega (arith, behind.0, high)) ∙ sym (lt_here a e (omega (arith, behind.0, high, low)))

-- ---- the pieces that stay

abbrev pub kept : ℕ → List Range → List Piece → List Piece
kept a rs [] = []
kept a rs (p ∷ ps) = if IsCut rs a then kept (a + out_size p) rs ps else p ∷ kept (a + out_size p) rs ps

twins_later : (a c : ℕ) (p : Piece) (ps : List Piece) (rs ts : List Range) → AreTwins (Stands a c (p ∷ ps)) rs ts → AreTwins (Stands (a + out_size p) (c + text_size p) ps) rs ts
twins_later a c p ps rs ts twins = twins_to (Stands a c (p ∷ ps)) (Stands (a + out_size p) (c + text_size p) ps) rs ts (stands_later a c p ps) twins

-- one piece more, by whether it is cut
out_by : (cut : Bool) (p : Piece) (front : List ℕ) (ps : List Piece) → front ≡ (if cut then [] else out_one p) → front ++ out_of ps ≡ out_of (if cut then ps else p ∷ ps)
out_by true p front ps is = rw is refl
out_by false p front ps is = rw is (sym (out_cons p ps))

text_by : (cut : Bool) (p : Piece) (front : List ℕ) (ps : List Piece) → front ≡ (if cut then [] else text_one p) → front ++ text_of ps ≡ text_of (if cut then ps else p ∷ ps)
text_by true p front ps is = rw is refl
text_by false p front ps is = rw is (sym (text_cons p ps))

all_or_none : (rs : List Range) (at : ℕ) (xs : List ℕ) (cut : Bool) → ((k : ℕ) → at ≤ k → k < at + length xs → IsCut rs k ≡ cut) → without rs at xs ≡ (if cut then [] else xs)
all_or_none rs at xs true all = cut_all rs at xs all
all_or_none rs at xs false none = kept_all rs at xs none

out_from : (a c : ℕ) (ps : List Piece) (rs ts : List Range) → AreTwins (Stands a c ps) rs ts → without rs a (out_of ps) ≡ out_of (kept a rs ps)
unfolding without
out_from a c [] rs ts twins = refl
out_from a c (p ∷ ps) rs ts twins =
    ap (without rs a) (out_cons p ps)
    ∙ without_append rs a (out_one p) (out_of ps)
    ∙ ap (λ (r : List ℕ). without rs a (out_one p) ++ r) (out_from (a + out_size p) (c + text_size p) ps rs ts (twins_later a c p ps rs ts twins))
    ∙ out_by (IsCut rs a) p (without rs a (out_one p)) (kept (a + out_size p) rs ps) (all_or_none rs a (out_one p) (IsCut rs a) (λ k low high. cut_out a c p ps rs ts k twins low high))

text_from : (a c : ℕ) (ps : List Piece) (rs ts : List Range) → AreTwins (Stands a c ps) rs ts → without ts c (text_of ps) ≡ text_of (kept a rs ps)
unfolding without
text_from a c [] rs ts twins = refl
text_from a c (p ∷ ps) rs ts twins =
    ap (without ts c) (text_cons p ps)
    ∙ without_append ts c (text_one p) (text_of ps)
    ∙ ap (λ (r : List ℕ). without ts c (text_one p) ++ r) (text_from (a + out_size p) (c + text_size p) ps rs ts (twins_later a c p ps rs ts twins))
    ∙ text_by (IsCut rs a) p (without ts c (text_one p)) (kept (a + out_size p) rs ps)
    (all_or_none ts c (text_one p) (IsCut rs a) (λ n low high. (cut_same a c p ps rs ts a n twins (omega arith) (omega (arith, out_some p)) low high).1))

-- without the ranges, either text is that of the pieces that stay
pub out_kept : (a c : ℕ) (ps : List Piece) (rs ts : List Range) → AreTwins (Meets a c ps) rs ts → without rs a (out_of ps) ≡ out_of (kept a rs ps)
out_kept a c ps rs ts twins = out_from a c ps rs ts (twins_to (Meets a c ps) (Stands a c ps) rs ts (λ e f meets. inr meets) twins)

pub text_kept : (a c : ℕ) (ps : List Piece) (rs ts : List Range) → AreTwins (Meets a c ps) rs ts → without ts c (text_of ps) ≡ text_of (kept a rs ps)
text_kept a c ps rs ts twins = text_from a c ps rs ts (twins_to (Meets a c ps) (Stands a c ps) rs ts (λ e f meets. inr meets) twins)

whole_one : (p : Piece) (ps : List Piece) → AreWhole (p ∷ ps) → AreWhole ps
whole_one (byte b) ps are = are
whole_one (marked m own) ps are = are.1

whole_more : (p : Piece) (ps qs : List Piece) → AreWhole (p ∷ ps) → AreWhole qs → AreWhole (p ∷ qs)
whole_more (byte b) ps qs are others = others
whole_more (marked m own) ps qs are others = (are.0, others)

pub whole_kept : (a : ℕ) (rs : List Range) (ps : List Piece) → AreWhole ps → AreWhole (kept a rs ps)
whole_kept a rs [] are = tt
whole_kept a rs (p ∷ ps) are = by (IsCut rs a) (whole_kept (a + out_size p) rs ps (whole_one p ps are))
  where
    by : (cut : Bool) → AreWhole (kept (a + out_size p) rs ps) → AreWhole (if cut then kept (a + out_size p) rs ps else p ∷ kept (a + out_size p) rs ps)
    by true others = others
    by false others = whole_more p ps (kept (a + out_size p) rs ps) are others
