-- The cells of each atom, as a row sorted by kind.
--     kinds_of row         the kinds of a row, in its order
--     diagram_in row j     the diagram of a kind, false where there is none
--     entries_of rows      the cells of all rows, each with its kind and atom
use Rattle.std.specs.Prelude.{◌≡◌, ℕ, suc, ◌<◌, ◌≤◌, ◌==◌, false, List, [], ◌∷◌, ◌++◌, map, length, get_or, slice_get, Some, Contains, unwrap_or}
use Rattle.std.specs.Map.{lookup}
use Rattle.std.specs.List.Sorted.{IsStrictlyIncreasing}
use Rattle.class_diagrams.specs.References.{Reference, leaf_reference}
use Rattle.pushdown_sym.specs.declared.cells.CellKey.{CellKey}
use Rattle.pushdown_sym.specs.CellMap.{Entries}

-- the kinds that have a diagram, each with its diagram
abbrev pub KindRow : Type 0
KindRow = List (ℕ × Reference)

abbrev pub kinds_of : KindRow → List ℕ
kinds_of row = map (λ e. e.0) row

abbrev pub diagram_in : KindRow → ℕ → Reference
diagram_in row j = unwrap_or (lookup (λ kind. j == kind) row) (leaf_reference false)

-- the kinds rise, and each is noted
pub record AreNoted (row : KindRow) (noted : List ℕ) : Type 0 where
  pub rising : IsStrictlyIncreasing (kinds_of row)
  pub whole : (j : ℕ) → Contains (kinds_of row) j → Contains noted j

-- a kind stands at a place
abbrev pub IsAt : KindRow → ℕ → ℕ → Type 0
IsAt row j i = (p : Reference) × (slice_get row i ≡ Some (j, p))

-- a kind would stand at a place: behind all smaller ones, and before all greater ones
pub record IsGapOf (row : KindRow) (j i : ℕ) : Type 0 where
  pub in_range : i ≤ length row
  pub smaller : (k : ℕ) → k < i → get_or (kinds_of row) k 0 < j
  pub greater : (k : ℕ) → i ≤ k → k < length row → j < get_or (kinds_of row) k 0

-- a cell of an atom's row, with its kind and atom
abbrev pub entry_of : ℕ → ℕ × Reference → CellKey × Reference
entry_of a e = (record { kind = e.0; atom = a }, e.1)

-- those of the rows of this atom and the atoms behind it
abbrev pub entries_from : ℕ → List KindRow → Entries
entries_from a [] = []
entries_from a (row ∷ rows) = map (entry_of a) row ++ entries_from (suc a) rows

abbrev pub entries_of : List KindRow → Entries
entries_of rows = entries_from 0 rows
