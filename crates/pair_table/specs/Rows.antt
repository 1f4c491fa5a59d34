-- Rows by a kind and a label.
--     pair_of r                   the pair of a row
--     IsRowOf rows kind label i   the row of this number is that of the pair
--     NoneAt pairs p places       the pair stands at none of these places
--     AreFound entries pairs      each pair's place stands among those of its hash
use Rattle.std.specs.Prelude.{◌≡◌, ◌==◌, ℕ, List, Some, IsSomeAnd, slice_get, Contains}
use Rattle.multimap.specs.Values.{values_at}
use Rattle.pair_table.specs.Hashes.{hash_of}
use Rattle.pair_table.specs.declared.table.Row.{Row}

abbrev pub pair_of : {V : Type 0} → Row V → ℕ × List ℕ
pair_of r = (r.kind, r.label)

abbrev pub IsRowOf : {V : Type 0} → List (Row V) → ℕ → List ℕ → ℕ → Type 0
IsRowOf rows kind label i = IsSomeAnd (slice_get rows i) (λ r. pair_of r ≡ (kind, label))

abbrev pub NoneAt : List (ℕ × List ℕ) → ℕ × List ℕ → List ℕ → Type 0
NoneAt pairs p places = (i : ℕ) → Contains places i → slice_get pairs i ≡ Some p → ⊥

-- the places that stand at a hash
abbrev pub places_in : List (ℕ × List ℕ) → ℕ → List ℕ
places_in = values_at (λ hash key. hash == key)

abbrev pub AreFound : List (ℕ × List ℕ) → List (ℕ × List ℕ) → Type 0
AreFound entries pairs = (i : ℕ) (p : ℕ × List ℕ) → slice_get pairs i ≡ Some p → Contains (places_in entries (hash_of p.0 p.1)) i
