-- A text in pieces: bytes, and marks. Such a text goes back to what its pieces stand for.
use Rattle.std.proofs.Common.{◌==◌, ◌≡◌, ℕ, suc, ◌-◌, ◌<◌, ◌&&◌, ◌||◌, not, Bool, true, false, nat_eq, List, [], ◌∷◌, ◌++◌, length, take, drop, codes, Some, None, Ok, refl, sym, ap, ◌∙◌, subst, arith, append_assoc, length-append, inl, inr}
use Rattle.std.specs.List.{starts_with}
use Rattle.std.proofs.lemmas.Bool.{cases_Bool, and_parts, eqb-true}
use Rattle.text_bytes.specs.Marks.{behind_mark}
use Rattle.text_bytes.specs.Rests.{IsRest}
use Rattle.text_bytes.proofs.Rests.{of_rest, behind_first}
use Rattle.sel_text.specs.Bytes.{behind_close}
use Rattle.widen_sheet.specs.declared.marks.Mark.{Mark}
use Rattle.widen_sheet.specs.declared.marks.Mark.TheVariants as mark
use Rattle.widen_sheet.specs.Wide.{before, letter, opening, closing, has, opens_mark, ended_mark, mark_at, behind_text, back_from}
use Rattle.widen_sheet.proofs.BackSteps.{one_mark}

pub data Piece : Type 0 where
  byte : ℕ → Piece
  marked : Mark → List ℕ → Piece

-- the text with marks
abbrev pub out_of : List Piece → List ℕ
out_of [] = []
out_of (byte b ∷ ps) = b ∷ out_of ps
out_of (marked m own ∷ ps) = opening m ++ (own ++ (closing m ++ out_of ps))

-- and what it stands for
abbrev pub text_of : List Piece → List ℕ
text_of [] = []
text_of (byte b ∷ ps) = b ∷ text_of ps
text_of (marked m own ∷ ps) = own ++ text_of ps

-- no comment ends in a mark before its end
abbrev pub AreWhole : List Piece → Type 0
AreWhole [] = Unit {0}
AreWhole (byte b ∷ ps) = AreWhole ps
AreWhole (marked m own ∷ ps) = (has (codes "*/") own ≡ false) × AreWhole ps

-- ---- lists

true_not_false : true ≡ false → ⊥
true_not_false e = cc

pub is_rest : (xs rest : List ℕ) → IsRest (xs ++ rest) rest
is_rest [] rest = let none : length rest - length rest ≡ 0 = omega arith in record { shorter = omega arith; last = ap (λ n. drop n rest) none }
is_rest (x ∷ xs) rest =
    let h = is_rest xs rest in
    let count : suc (length (xs ++ rest)) - length rest ≡ suc (length (xs ++ rest) - length rest) = omega (arith, h.shorter) in
    record { shorter = omega (arith, h.shorter); last = ap (λ n. drop n (x ∷ (xs ++ rest))) count ∙ h.last }

take_front : (xs rest : List ℕ) → take (length xs) (xs ++ rest) ≡ xs
take_front [] rest = refl
take_front (x ∷ xs) rest = ap (λ ys. x ∷ ys) (take_front xs rest)

drop_front : (xs rest : List ℕ) → drop (length xs) (xs ++ rest) ≡ rest
drop_front [] rest = refl
drop_front (x ∷ xs) rest = drop_front xs rest

before_rest : (xs rest : List ℕ) → before (xs ++ rest) rest ≡ xs
before_rest xs rest = let count : length (xs ++ rest) - length rest ≡ length xs = omega (arith, length-append xs rest) in rw count (take_front xs rest)

-- ---- what a text begins with

begins_cons : (x c : ℕ) (xs p : List ℕ) → starts_with nat_eq (x ∷ xs) (c ∷ p) ≡ (nat_eq c x && starts_with nat_eq xs p)
begins_cons x c xs p = refl

or_true : (b : Bool) → (b || true) ≡ true
or_true true = refl
or_true false = refl

or_false : (a b : Bool) → (a || b) ≡ false → (a ≡ false) × (b ≡ false)
or_false false b is = (refl, is)
or_false true b is = absurd (true_not_false is)

and_false : (b : Bool) → (b && false) ≡ false
and_false true = refl
and_false false = refl

-- where some bytes stand behind others
has_behind : (pre p xs : List ℕ) → 0 < length p → starts_with nat_eq xs (pre ++ p) ≡ true → has p xs ≡ true
unfolding has
has_behind [] [] [] some is = absurd (omega arith)
has_behind [] (c ∷ p) [] some is = absurd (true_not_false (sym is))
has_behind [] p (x ∷ xs) some is = rw is refl
has_behind (c ∷ pre) p [] some is = absurd (true_not_false (sym is))
has_behind (c ∷ pre) p (x ∷ xs) some is =
    let later : has p xs ≡ true = has_behind pre p xs some (and_parts (nat_eq c x) (starts_with nat_eq xs (pre ++ p)) is).1 in
    ap (λ (b : Bool). starts_with nat_eq (x ∷ xs) p || b) later ∙ or_true (starts_with nat_eq (x ∷ xs) p)

pub has_later : (p : List ℕ) (x : ℕ) (xs : List ℕ) → has p (x ∷ xs) ≡ false → has p xs ≡ false
unfolding has
has_later p x xs none = (or_false (starts_with nat_eq (x ∷ xs) p) (has p xs) none).1

pub has_here : (p : List ℕ) (x : ℕ) (xs : List ℕ) → has p (x ∷ xs) ≡ false → starts_with nat_eq (x ∷ xs) p ≡ false
unfolding has
has_here p x xs none = (or_false (starts_with nat_eq (x ∷ xs) p) (has p xs) none).0

pub has_right : (p xs ys : List ℕ) → has p (xs ++ ys) ≡ false → has p ys ≡ false
has_right p [] ys none = none
has_right p (x ∷ xs) ys none = has_right p xs ys (has_later p x (xs ++ ys) none)

-- ---- bytes

-- no byte of these begins a mark
abbrev pub HasNoColon : List ℕ → Type 0
HasNoColon [] = Unit {0}
HasNoColon (c ∷ p) = (nat_eq c 58 ≡ false) × HasNoColon p

pub same_front : (p : List ℕ) (ps : List Piece) → HasNoColon p → starts_with nat_eq (out_of ps) p ≡ true → starts_with nat_eq (text_of ps) p ≡ true
same_front [] ps apart is = refl
same_front (c ∷ p) [] apart is = absurd (true_not_false (sym is))
same_front (c ∷ p) (byte b ∷ ps) apart is =
    let both = and_parts (nat_eq c b) (starts_with nat_eq (out_of ps) p) is in
    rw both.0 (same_front p ps apart.1 both.1)
same_front (c ∷ p) (marked m own ∷ ps) apart is =
    let rest : List ℕ = (codes "hover/*~" ++ letter m ∷ []) ++ (own ++ (closing m ++ out_of ps)) in
    absurd (true_not_false (sym (and_parts (nat_eq c 58) (starts_with nat_eq rest p) is).0 ∙ apart.0))

no_opening : (b : ℕ) (ps : List Piece) → has (codes "/*~") (b ∷ text_of ps) ≡ false → opens_mark (b ∷ out_of ps) ≡ false
no_opening b ps none = elim (cases_Bool (opens_mark (b ∷ out_of ps))) [
  | inl yes' ↦
      let both = and_parts (nat_eq 47 b) (starts_with nat_eq (out_of ps) (codes "*~")) yes' in
      let there : opens_mark (b ∷ text_of ps) ≡ true = rw both.0 (same_front (codes "*~") ps (refl, (refl, tt)) both.1) in
      absurd (true_not_false (sym there ∙ has_here (codes "/*~") b (text_of ps) none))
  | inr other ↦ other
]

-- ---- a `/*~` that ends a comment

-- each `/*~` that begins outside of marks has a `*` before it
abbrev pub AreFree : Bool → List Piece → Type 0
AreFree star [] = Unit {0}
AreFree star (byte b ∷ ps) = (opens_mark (b ∷ out_of ps) ≡ true → star ≡ true) × AreFree (b == 42) ps
AreFree star (marked m own ∷ ps) = AreFree false ps

-- where there is none, that is so
pub none_free : (star : Bool) (ps : List Piece) → has (codes "/*~") (text_of ps) ≡ false → AreFree star ps
none_free star [] none = tt
none_free star (byte b ∷ ps) none = (λ opens. absurd (true_not_false (sym opens ∙ no_opening b ps none)), none_free (b == 42) ps (has_later (codes "/*~") b (text_of ps) none))
none_free star (marked m own ∷ ps) none = none_free false ps (has_right (codes "/*~") own (text_of ps) none)

-- no colon, and no star
abbrev IsCalm : List ℕ → Type 0
IsCalm [] = Unit {0}
IsCalm (c ∷ p) = (nat_eq c 58 ≡ false) × ((c == 42) ≡ false) × IsCalm p

same_star : (c b : ℕ) → nat_eq c b ≡ true → (c == 42) ≡ false → (b == 42) ≡ false
same_star c b same none = ap (λ (n : ℕ). n == 42) (sym (eqb-true c b same)) ∙ none

hidden : (p : List ℕ) (ps : List Piece) → IsCalm p → AreFree false ps → starts_with nat_eq (out_of ps) (p ++ codes "/*~") ≡ true → ⊥
hidden [] [] calm free is = true_not_false (sym is)
hidden [] (byte b ∷ ps) calm free is = true_not_false (sym (free.0 is))
hidden [] (marked m own ∷ ps) calm free is = true_not_false (sym is)
hidden (c ∷ p) [] calm free is = true_not_false (sym is)
hidden (c ∷ p) (byte b ∷ ps) calm free is =
    let both = and_parts (nat_eq c b) (starts_with nat_eq (out_of ps) (p ++ codes "/*~")) is in
    hidden p ps calm.2 (subst (λ (t : Bool). AreFree t ps) (same_star c b both.0 calm.1) free.1) both.1
hidden (c ∷ p) (marked m own ∷ ps) calm free is =
    let rest : List ℕ = (codes "hover/*~" ++ letter m ∷ []) ++ (own ++ (closing m ++ out_of ps)) in
    true_not_false (sym (and_parts (nat_eq c 58) (starts_with nat_eq rest (p ++ codes "/*~")) is).0 ∙ calm.0)

no_mark_at : (b : ℕ) (ps : List Piece) → AreFree (b == 42) ps → mark_at (b ∷ out_of ps) ≡ None
unfolding mark_at
no_mark_at b ps free = elim (cases_Bool (starts_with nat_eq (b ∷ out_of ps) (codes ":hover/*~"))) [
  | inl yes' ↦
      let both = and_parts (nat_eq 58 b) (starts_with nat_eq (out_of ps) (codes "hover/*~")) yes' in
      absurd (hidden (codes "hover") ps ((refl, refl, (refl, refl, (refl, refl, (refl, refl, (refl, refl, tt)))))) (subst (λ (t : Bool). AreFree t ps) (same_star 58 b both.0 refl) free) both.1)
  | inr other ↦ rw other refl
]

-- ---- marks

not_close : (x : ℕ) (own r : List ℕ) → starts_with nat_eq (x ∷ own) (codes "*/") ≡ false → starts_with nat_eq (x ∷ (own ++ 126 ∷ r)) (codes "*/") ≡ false
not_close x [] r none = and_false (nat_eq 42 x)
not_close x (y ∷ own) r none = none

pub close_found : (own r : List ℕ) → has (codes "*/") own ≡ false → behind_close (own ++ 126 ∷ 42 ∷ 47 ∷ r) ≡ r
unfolding behind_mark
close_found [] r none = refl
close_found (x ∷ own) r none = rw (not_close x own (42 ∷ 47 ∷ r) (has_here (codes "*/") x own none)) (close_found own r (has_later (codes "*/") x own none))

ended_by : (comment behind end own out : List ℕ) → take (length comment - 3) comment ≡ own → drop (length comment - 3) comment ≡ codes "~*/" → starts_with nat_eq behind end ≡ true → drop (length end) behind ≡ out
    → ended_mark comment behind end ≡ Some (own, out)
unfolding ended_mark
ended_by comment behind end own out front closes begins last = rw (closes, begins, front, last) refl

mark_ends : (own r end out : List ℕ) → has (codes "*/") own ≡ false → starts_with nat_eq r end ≡ true → drop (length end) r ≡ out
    → ended_mark (before (own ++ 126 ∷ 42 ∷ 47 ∷ r) (behind_close (own ++ 126 ∷ 42 ∷ 47 ∷ r))) (behind_close (own ++ 126 ∷ 42 ∷ 47 ∷ r)) end ≡ Some (own, out)
mark_ends own r end out none begins last =
    let comment : List ℕ = own ++ codes "~*/" in
    let whole : own ++ 126 ∷ 42 ∷ 47 ∷ r ≡ comment ++ r = sym (append_assoc own (codes "~*/") r) in
    let found : before (own ++ 126 ∷ 42 ∷ 47 ∷ r) r ≡ comment = ap (λ bs. before bs r) whole ∙ before_rest comment r in
    let count : length comment - 3 ≡ length own = omega (arith, length-append own (codes "~*/")) in
    rw (close_found own r none, found)
    (ended_by comment r end own out (rw count (take_front own (codes "~*/"))) (rw count (drop_front own (codes "~*/"))) begins last)

mark_found : (m : Mark) (own out : List ℕ) → has (codes "*/") own ≡ false → mark_at (opening m ++ (own ++ (closing m ++ out))) ≡ Some (own, out)
unfolding mark_at
mark_found mark.Part own out none = mark_ends own (codes ":hover" ++ out) (codes ":hover") out none refl refl
mark_found mark.Inside own out none = mark_ends own (codes ":hover " ++ out) (codes ":hover ") out none refl refl
mark_found mark.Child own out none = mark_ends own (codes ":hover>" ++ out) (codes ":hover>") out none refl refl

-- ---- the whole

alone : (opens star : Bool) → (opens ≡ true → star ≡ true) → (opens && not star) ≡ false
alone true true behind = refl
alone false true behind = refl
alone false false behind = refl
alone true false behind = absurd (true_not_false (sym (behind refl)))

pub goes_back_free : (size : ℕ) (star : Bool) (ps : List Piece) → AreWhole ps → AreFree star ps → back_from size star 0 (out_of ps) ≡ Ok (text_of ps)
unfolding back_from
goes_back_free size star [] are free = refl
goes_back_free size star (byte b ∷ ps) are free =
    let later = goes_back_free size (b == 42) ps are free.1 in
    rw (no_mark_at b ps free.1, alone (opens_mark (b ∷ out_of ps)) star free.0, later) refl
goes_back_free size star (marked m own ∷ ps) are free =
    let out = out_of ps in
    let rest = of_rest _ (own ++ (closing m ++ out)) out (is_rest (codes "hover/*~" ++ letter m ∷ []) (own ++ (closing m ++ out))) (of_rest _ (closing m ++ out) out (is_rest own (closing m ++ out)) (is_rest (closing m) out)) in
    let all : List ℕ = (codes "hover/*~" ++ letter m ∷ []) ++ (own ++ (closing m ++ out)) in
    one_mark size star (58 ∷ all) own out (mark_found m own out are.0) (of_rest (58 ∷ all) all out (behind_first 58 all) rest) (omega (arith, rest.shorter))
    ∙ ap (behind_text own) (goes_back_free size false ps are.1 free)

pub goes_back : (size : ℕ) (star : Bool) (ps : List Piece) → AreWhole ps → has (codes "/*~") (text_of ps) ≡ false → back_from size star 0 (out_of ps) ≡ Ok (text_of ps)
goes_back size star ps are none = goes_back_free size star ps are (none_free star ps none)
