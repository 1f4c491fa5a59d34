-- Paths, and the paths of the nodes above.
use Rattle.std.specs.Prelude.{◌≡◌, ℕ, ◌<◌, List, [], ◌∷◌, length, take, Option, Some, None, option_map}

-- the path without its last number; the root's has none
abbrev pub parent_of : List ℕ → Option (List ℕ)
parent_of [] = None
parent_of (k ∷ []) = Some []
parent_of (k ∷ l ∷ v) = option_map (λ p. k ∷ p) (parent_of (l ∷ v))

-- the number of a node among its siblings, which ends its path; 0 for the root
abbrev pub last_number : List ℕ → ℕ
last_number [] = 0
last_number (k ∷ []) = k
last_number (k ∷ l ∷ v) = last_number (l ∷ v)

-- u is a part of v from the root on, and not all of it
abbrev pub IsAncestor : List ℕ → List ℕ → Type 0
IsAncestor u v = (len : ℕ) × (len < length v) × (u ≡ take len v)
