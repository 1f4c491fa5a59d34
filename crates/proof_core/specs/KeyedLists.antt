-- Lists with a table that has the index of the first item with each key.
use Rattle.std.specs.Prelude.{◌≡◌, ℕ, suc, Bool, if◌then◌else◌, List, [], ◌∷◌, Option, Some, None, option_map}
use Rattle.indexmap.specs.IndexMap.{IndexMap, get_by}

abbrev pub first_place : {X : Type 0} → (X → Bool) → List X → Option ℕ
first_place test [] = None
first_place test (x ∷ xs) = if test x then Some 0 else option_map (λ n. suc n) (first_place test xs)

abbrev pub has_key : {K X : Type 0} → (K → K → Bool) → (X → K) → K → X → Bool
has_key eq key k = λ x. eq (key x) k

-- the table has the index of the first item with each key
abbrev pub AreFirsts : {K X S : Type 0} → (K → K → Bool) → (X → K) → IndexMap K ℕ S → List X → Type 0
AreFirsts {K} eq key firsts items = (k : K) → get_by (eq k) firsts ≡ first_place (has_key eq key k) items
