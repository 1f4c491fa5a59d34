-- Marks that don't come, further on in a text.
use Rattle.std.proofs.Common.{◌≡◌, ℕ, zero, suc, ◌-◌, ◌==◌, Bool, true, false, if◌then◌else◌, List, [], ◌∷◌, length, drop, Option, Some, None, IsSome, true-eqb, refl, sym, ap, subst, ◌∙◌, arith}
use Rattle.text_pieces.specs.declared.holes.Closers.{Closers}
use Rattle.text_pieces.specs.Closers.{AreLeft}
use Rattle.text_pieces.specs.Holes.{starts, behind_first}

shorter : (mark bs : List ℕ) (b : ℕ) (test : Bool) → (if test then Some (drop (length mark) (b ∷ bs)) else behind_first mark bs) ≡ None → behind_first mark bs ≡ None
shorter mark bs b true none = let never : IsSome {T = List ℕ} None = subst (λ (o : Option (List ℕ)). IsSome o) none refl in cc
shorter mark bs b false none = none

one_later : (mark bs : List ℕ) (b : ℕ) → behind_first mark (b ∷ bs) ≡ None → behind_first mark bs ≡ None
unfolding behind_first
one_later mark bs b none = shorter mark bs b (starts (b ∷ bs) mark) none

pub none_later : (mark : List ℕ) (n : ℕ) (bs : List ℕ) → behind_first mark bs ≡ None → behind_first mark (drop n bs) ≡ None
none_later mark zero [] none = none
none_later mark zero (b ∷ bs) none = none
none_later mark (suc n) [] none = none
none_later mark (suc n) (b ∷ bs) none = none_later mark n bs (one_later mark bs b none)

pub left_later : (c : Closers) (n : ℕ) (bs : List ℕ) → AreLeft c bs → AreLeft c (drop n bs)
left_later c n bs left = record {
  percent = λ off. none_later _ n bs (left.percent off);
  square = λ off. none_later _ n bs (left.square off);
  brace = λ off. none_later _ n bs (left.brace off);
}

pub left_behind : (c : Closers) (rest bs : List ℕ) (b : ℕ) → rest ≡ b ∷ bs → AreLeft c (drop 1 rest) → AreLeft c bs
left_behind c rest bs b is left = subst (λ qs. AreLeft c (drop 1 qs)) is left

past : (c : Closers) (n : ℕ) (rest bs : List ℕ) (b : ℕ) → rest ≡ b ∷ bs → AreLeft c bs → (n == 0) ≡ false → AreLeft c (drop n rest)
past c zero rest bs b is left some = let never : true ≡ false = some in cc
past c (suc n) rest bs b is left some = subst (λ qs. AreLeft c (drop (suc n) qs)) (sym is) (left_later c n bs left)

pub left_past : (c : Closers) (n : ℕ) (rest bs : List ℕ) (b : ℕ) → rest ≡ b ∷ bs → AreLeft c (drop 1 rest) → (n == 0) ≡ false → AreLeft c (drop n rest)
left_past c n rest bs b is left some = past c n rest bs b is (left_behind c rest bs b is left) some

by_test : (n : ℕ) (test : Bool) → (n == 0) ≡ test → (n ≡ 0 → ⊥) → test ≡ false
by_test n true is some = absurd (some (true-eqb n 0 (sym is)))
by_test n false is some = refl

pub not_zero : (n : ℕ) → (n ≡ 0 → ⊥) → (n == 0) ≡ false
not_zero n some = by_test n (n == 0) refl some
