-- Names, and the tables of names, as lists without repeats.
use Rattle.std.specs.Prelude.{◌≡◌, ℕ, ◌<◌, ◌≤◌, ◌≢◌, Bool, ◌&&◌, nat_lt, if◌then◌else◌, List, [], ◌∷◌, ◌++◌, length, take, slice_get, position, Option, Some, None}
use Rattle.std.specs.Str.{bytes_eq}
use denote.Enum.Bare.{sameb}
use Rattle.tp_base.specs.contracts.atoms.AtomKind.{the_type}
use Rattle.tp_base.specs.declared.atoms.AtomKind.{AtomKind}
use Rattle.tp_base.specs.declared.atoms.TheConstants.{MOST_ATOMS}
use Rattle.tp_base.specs.declared.names.Name.{Name}

-- what a name is to a caller: its kind and its text
abbrev pub Named : Type 0
Named = AtomKind × List ℕ

-- whether two names have one kind and one text
abbrev pub is_name : Named → Named → Bool
is_name m n = sameb the_type m.0 n.0 && bytes_eq m.1 n.1

-- the place of the first equal name
unfoldable pub place_in : List Named → Named → Option ℕ
place_in names name = position (is_name name) names

-- where the place is known it stays; else the name goes last, where there is room
abbrev pub placed : Option ℕ → List Named → Named → Option (ℕ × List Named)
placed (Some place) names name = Some (place, names)
placed None names name = if nat_lt (length names) MOST_ATOMS then Some (length names, names ++ name ∷ []) else None

-- the place of a name, and the names with it among them; none where it is new and there is no room
unfoldable pub with_name : List Named → Named → Option (ℕ × List Named)
with_name names name = placed (place_in names name) names name

-- the names that were there keep their numbers
abbrev pub IsFront : List Named → List Named → Type 0
IsFront old new = take (length old) new ≡ old

-- no name comes twice
abbrev pub IsDistinct : List Named → Type 0
IsDistinct names = (i j : ℕ) → i < j → j < length names → slice_get names i ≢ slice_get names j

-- what is true of each table: no name comes twice, and there are not too many
pub record IsTable (names : List Named) : Type 0 where
  pub distinct : IsDistinct names
  pub in_limit : length names ≤ MOST_ATOMS

-- what a stored name is to a caller
abbrev pub named : Name → Named
named n = (n.kind, n.text.items)
