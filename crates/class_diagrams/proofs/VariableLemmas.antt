-- Places of atoms.
use Rattle.std.proofs.Common.{◌≡◌, ℕ, zero, suc, List, [], ◌∷◌, ◌++◌, Option, None, get_or, refl}

-- a place with nothing tells nothing
pub nothing_more : {X : Type 0} (xs : List (Option X)) (n : ℕ) → get_or (xs ++ None ∷ []) n None ≡ get_or xs n None
nothing_more [] zero = refl
nothing_more [] (suc n) = refl
nothing_more (x ∷ xs) zero = refl
nothing_more (x ∷ xs) (suc n) = nothing_more xs n
