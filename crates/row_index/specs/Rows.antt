-- For each key a row of values, such as the places in a list at which the key stands.
--     row_of rows key          the values at a key
--     IsNoted old new key x    x was appended to the row of the key, and no other row changed
--     AreByNumber numbers rows the row of each number has exactly the places in the list at which the number stands
use Rattle.std.specs.Prelude.{◌≡◌, ◌≢◌, ℕ, List, [], ◌∷◌, ◌++◌, get_or, slice_get, Option, Some, None, Contains}

abbrev pub row_of : {V : Type 0} → List (List V) → ℕ → List V
row_of rows key = get_or rows key []

pub record IsNoted {V : Type 0} (old new : List (List V)) (key : ℕ) (x : V) : Type 0 where
  pub here : row_of new key ≡ row_of old key ++ x ∷ []
  pub others : (k : ℕ) → k ≢ key → row_of new k ≡ row_of old k

-- the place i was noted for its number, if it has one
abbrev pub IsNotedIf : List (List ℕ) → List (List ℕ) → Option ℕ → ℕ → Type 0
IsNotedIf old new None i = new ≡ old
IsNotedIf old new (Some j) i = IsNoted old new j i

-- the row of a number has each place at which the number stands, and no other
pub record AreByNumber (numbers : List (Option ℕ)) (rows : List (List ℕ)) : Type 0 where
  pub whole : (i j : ℕ) → slice_get numbers i ≡ Some (Some j) → Contains (row_of rows j) i
  pub only : (j i : ℕ) → Contains (row_of rows j) i → slice_get numbers i ≡ Some (Some j)
