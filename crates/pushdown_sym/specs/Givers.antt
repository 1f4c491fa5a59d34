-- What the rules at given places of a list come to, and which places count.
use Rattle.std.specs.Prelude.{◌≡◌, ℕ, ◌≤◌, true, List, [], length, Contains, Some, slice_get, unwrap_or, option_map}
use Rattle.std.specs.List.Sorted.{IsStrictlyIncreasing}
use Rattle.simple_core.specs.declared.rules.Spawn.{Spawn}
use Rattle.row_index.specs.Rows.{row_of}
use Rattle.pushdown_sym.specs.CellMap.{Entries, may_have}

-- what comes of the rule at a place
abbrev pub of_place : {X Y : Type 0} → (X → List Y) → List X → ℕ → List Y
of_place f rules i = unwrap_or (option_map f (slice_get rules i)) []

-- for each kind, the places of the spawn rules that make it, and maybe others
abbrev pub AreMakers : List Spawn → List (List ℕ) → Type 0
AreMakers spawns makers = (i : ℕ) (c : Spawn) → slice_get spawns i ≡ Some c → Contains (row_of makers c.kind) i

-- these places rise, and among them are those of all spawn rules that a node of the kind may use
pub record AreDoors (spawns : List Spawn) (cells : Entries) (j : ℕ) (places : List ℕ) : Type 0 where
  pub rising : IsStrictlyIncreasing places
  pub whole : (i : ℕ) (c : Spawn) → slice_get spawns i ≡ Some c → may_have cells j c.needs ≡ true → Contains places i

-- so many places of a kind are noted, and one more
abbrev pub a_few : ℕ
a_few = 8

-- for each kind its places, unless they are more than a few
abbrev pub HaveDoors : List Spawn → Entries → List (List ℕ) → Type 0
HaveDoors spawns cells rows = (j : ℕ) → length (row_of rows j) ≤ a_few → AreDoors spawns cells j (row_of rows j)

-- a row of places up to this one
pub record IsRow (place : ℕ) (row : List ℕ) : Type 0 where
  pub rising : IsStrictlyIncreasing row
  pub within : (n : ℕ) → Contains row n → n ≤ place

-- a row that this place may have come to
pub record Grows (place : ℕ) (old new : List ℕ) : Type 0 where
  pub row : IsRow place old → IsRow place new
  pub kept : (n : ℕ) → Contains old n → Contains new n
  pub longer : length old ≤ length new

-- the rows of these kinds have the place, unless they have more than a few others, and nothing else comes to any row
pub record IsNoted (kinds : List ℕ) (place : ℕ) (old new : ℕ → List ℕ) : Type 0 where
  pub each : (j : ℕ) → Grows place (old j) (new j)
  pub noted : (j : ℕ) → Contains kinds j → length (new j) ≤ a_few → Contains (new j) place
