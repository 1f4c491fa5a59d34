-- A part of a text between two places, which may be past its end.
use Rattle.std.proofs.Common.{◌≡◌, ℕ, zero, suc, min, List, [], ◌∷◌, length, take, drop, refl, ap, ◌∙◌, arith}

take_capped : (xs : List ℕ) (n : ℕ) → take (min n (length xs)) xs ≡ take n xs
take_capped [] zero = refl
take_capped [] (suc n) = let none : min (suc n) 0 ≡ 0 = omega arith in rw none refl
take_capped (x ∷ xs) zero = let none : min 0 (length (x ∷ xs)) ≡ 0 = omega arith in rw none refl
take_capped (x ∷ xs) (suc n) = let less : min (suc n) (suc (length xs)) ≡ suc (min n (length xs)) = omega arith in rw less (ap (λ ys. x ∷ ys) (take_capped xs n))

drop_capped : (xs : List ℕ) (n : ℕ) → drop (min n (length xs)) xs ≡ drop n xs
drop_capped [] zero = refl
drop_capped [] (suc n) = let none : min (suc n) 0 ≡ 0 = omega arith in rw none refl
drop_capped (x ∷ xs) zero = let none : min 0 (length (x ∷ xs)) ≡ 0 = omega arith in rw none refl
drop_capped (x ∷ xs) (suc n) = let less : min (suc n) (suc (length xs)) ≡ suc (min n (length xs)) = omega arith in rw less (drop_capped xs n)

pub span : (text : List ℕ) (from to : ℕ) → drop (min from (length (take (min to (length text)) text))) (take (min to (length text)) text) ≡ drop from (take to text)
span text from to = drop_capped (take (min to (length text)) text) from ∙ ap (drop from) (take_capped text to)
