-- The first child of a node that has an atom by some round.
--     came_by k o              the first round o exists and is at most k
--     IsFirstChild fs v a k o  o is the least child of v that has the atom a by the round k
use Rattle.std.specs.Prelude.{◌≡◌, ℕ, ◌<◌, leb, Bool, true, false, List, [], ◌∷◌, ◌++◌, Option, Some, None}
use Rattle.closed_page.specs.ClosedPages.{First, round_of}

abbrev pub came_by : ℕ → Option ℕ → Bool
came_by k None = false
came_by k (Some r) = leb r k

abbrev pub IsFirstChild : List First → List ℕ → ℕ → ℕ → Option ℕ → Type 0
IsFirstChild firsts v a k None = (m : ℕ) → came_by k (round_of firsts (v ++ m ∷ []) a) ≡ false
IsFirstChild firsts v a k (Some n) = (came_by k (round_of firsts (v ++ n ∷ []) a) ≡ true) × ((m : ℕ) → m < n → came_by k (round_of firsts (v ++ m ∷ []) a) ≡ false)
