-- Rows of places.
use Rattle.std.specs.Prelude.{◌≡◌, ◌⊎◌, ◌≤◌, ◌<◌, ℕ, List, [], get_or, Contains}

-- the places in a row
abbrev pub row_in : List (List ℕ) → ℕ → List ℕ
row_in rows q = get_or rows q []

-- the place stands in the row, with what stood there and nothing else
pub record IsAdded (old new : List ℕ) (i : ℕ) : Type 0 where
  pub kept : (j : ℕ) → Contains old j → Contains new j
  pub here : Contains new i
  pub only : (j : ℕ) → Contains new j → Contains old j ⊎ (j ≡ i)

-- what stood in a row stands there still
abbrev pub IsRicher : List (List ℕ) → List (List ℕ) → Type 0
IsRicher old new = (q i : ℕ) → Contains (row_in old q) i → Contains (row_in new q) i

-- the rows before k are the same
abbrev pub AreSameBelow : ℕ → List (List ℕ) → List (List ℕ) → Type 0
AreSameBelow k old new = (q : ℕ) → q < k → row_in new q ≡ row_in old q

-- nothing is due before the round k
abbrev pub IsEmptyBelow : ℕ → List (List ℕ) → Type 0
IsEmptyBelow k due = (q : ℕ) → q < k → row_in due q ≡ []

-- the entry at i is due in a round from n to w
abbrev pub IsDue : List (List ℕ) → ℕ → ℕ → ℕ → Type 0
IsDue due i n w = (q : ℕ) × (n ≤ q) × (q ≤ w) × Contains (row_in due q) i
