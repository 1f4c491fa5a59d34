-- Which cells are calculated again after some changes.
use Rattle.std.specs.Prelude.{◌≡◌, ◌≢◌, ℕ, ◌<◌, Bool, true, false, get_or, List, [], map, length, All, Contains, if◌then◌else◌, ◌⊎◌}
use Rattle.std.specs.List.{flat_map}
use Rattle.std.specs.Ordering.{ordering_then, nat_cmp}
use Rattle.std.specs.declared.cmp.Ordering.{Ordering}
use Rattle.tp_base.specs.Classes.{has_class}
use Rattle.class_diagrams.specs.References.{Reference}
use Rattle.class_diagrams.specs.Trees.{leaf}
use Rattle.simple_core.specs.declared.rules.Link.{Link}
use Rattle.simple_core.specs.declared.rules.Spawn.{Spawn}
use Rattle.simple_core.specs.declared.system.System.{System}
use Rattle.pushdown_sym.specs.Terms.{CellTrees}
use Rattle.pushdown_sym.specs.Rounds.{given_atoms}
use Rattle.saturation.specs.Reads.{IsRead}

-- a kind and an atom
abbrev pub CellName : Type 0
CellName = ℕ × ℕ

-- the order of cells: by the kind, then by the atom
abbrev pub cell_cmp : CellName → CellName → Ordering
cell_cmp x y = ordering_then (nat_cmp x.0 y.0) (nat_cmp x.1 y.1)

abbrev pub named : ℕ → List ℕ → List CellName
named kind atoms = map (λ a. (kind, a)) atoms

abbrev pub named_each : List ℕ → List ℕ → List CellName
named_each kinds atoms = flat_map (λ kind. named kind atoms) kinds

-- the cells that local rules calculate from this one
abbrev pub by_rules : (ℕ → List ℕ) → CellName → List CellName
by_rules by_needs c = named c.0 (by_needs c.1)

-- pairs of an atom that makes a child of the kind, and an atom that links give to the parent of a child with the atom
abbrev pub by_makers : (ℕ → List ℕ) → (ℕ → List ℕ) → CellName → List CellName
by_makers makers by_child c = named_each (makers c.0) (by_child c.1)

-- the lists for all changed cells, behind one another
abbrev pub of_each : {X : Type 0} → (CellName → List X) → List (CellName × Reference) → List X
of_each f changes = flat_map (λ c. f c.0) changes

abbrev pub with_atom : ℕ → List ℕ → List CellName
with_atom atom kinds = map (λ kind. (kind, atom)) kinds

-- the kinds, below the count, whose nodes may have the atom
pub record AreMakers (now : CellTrees) (count atom : ℕ) (kinds : List ℕ) : Type 0 where
  pub whole : (j : ℕ) → j < count → now j atom ≢ leaf false → Contains kinds j
  pub below : All (λ j. j < count) kinds

-- the old cells, and for each pair the cells of its second atom, for the kinds whose nodes may have the first
pub record AreAbove (now : CellTrees) (count : ℕ) (pairs old new : List CellName) : Type 0 where
  pub kept : (c : CellName) → Contains old c → Contains new c
  pub whole : (m a j : ℕ) → Contains pairs (m, a) → j < count → now j m ≢ leaf false → Contains new (j, a)
  pub only : (c : CellName) → Contains new c → Contains old c ⊎ ((m : ℕ) × Contains pairs (m, c.1) × (c.0 < count))

-- the kind of the cell is marked if the cell's atom is looked at, and no other kind is
pub record AreMarked (looked : List ℕ) (name : CellName) (old new : List Bool) : Type 0 where
  pub count : length new ≡ length old
  pub kept : (j : ℕ) → get_or old j false ≡ true → get_or new j false ≡ true
  pub here : has_class name.1 looked ≡ true → name.0 < length old → get_or new name.0 false ≡ true
  pub only : (j : ℕ) → get_or new j false ≡ true → (get_or old j false ≡ true) ⊎ ((j ≡ name.0) × (has_class name.1 looked ≡ true))

-- the same for all changed cells
pub record AreAllMarked (count : ℕ) (looked : List ℕ) (changes : List (CellName × Reference)) (marks : List Bool) : Type 0 where
  pub long : length marks ≡ count
  pub marked : (c : CellName × Reference) → Contains changes c → has_class c.0.1 looked ≡ true → c.0.0 < count → get_or marks c.0.0 false ≡ true
  pub only : (j : ℕ) → get_or marks j false ≡ true → (c : CellName × Reference) × Contains changes c × (c.0.0 ≡ j) × (has_class c.0.1 looked ≡ true)

-- a cell for each of some kinds that is marked and each of these atoms
abbrev pub seen_by : List Bool → List ℕ → ℕ → List CellName
seen_by marks atoms kind = if get_or marks kind false then named kind atoms else []

abbrev pub seen_each : List Bool → List ℕ → List ℕ → List CellName
seen_each marks atoms kinds = flat_map (seen_by marks atoms) kinds

-- the old cells, and for each atom the cells of its ends, for the marked kinds whose nodes may have the atom
pub record AreSeen (now : CellTrees) (marks : List Bool) (atoms : List ℕ) (ends : ℕ → List ℕ) (old new : List CellName) : Type 0 where
  pub kept : (c : CellName) → Contains old c → Contains new c
  pub whole : (m a j : ℕ) → Contains atoms m → now j m ≢ leaf false → get_or marks j false ≡ true → Contains (ends m) a → Contains new (j, a)
  pub only : (c : CellName) → Contains new c → Contains old c ⊎ ((get_or marks c.0 false ≡ true) × (m : ℕ) × Contains (ends m) c.1)

-- `ends` has, for each atom that makes children, all atoms that links may give to a node with it
pub record AreEnds (s : System) (now : CellTrees) (ends : ℕ → List ℕ) : Type 0 where
  pub whole : (l : Link) → Contains s.down l → (c : Spawn) → Contains s.child c → now c.kind l.from ≢ leaf false → Contains (ends c.needs) l.to
  pub only : (m a : ℕ) → Contains (ends m) a → (l : Link) × Contains s.down l × (a ≡ l.to)

-- a cell that is true somewhere was so before, or is among the changes
abbrev pub HaveChanged : System → CellTrees → CellTrees → List (CellName × Reference) → Type 0
HaveChanged s before now changes = (i b : ℕ) → i < length s.kinds → now i b ≢ leaf false → (before i b ≢ leaf false) ⊎ ((f : Reference) × Contains changes ((i, b), f))

abbrev pub Fits : System → CellName → Type 0
Fits s c = (c.0 < length s.kinds) × Contains (given_atoms s) c.1

-- the worklist has each cell that reads one of the changed cells
pub record AreReaders (s : System) (now : CellTrees) (changes : List (CellName × Reference)) (todo : List CellName) : Type 0 where
  pub readers : (i b j a : ℕ) (f : Reference) → Contains changes ((i, b), f) → j < length s.kinds → IsRead s now i b j a → Contains todo (j, a)
  pub cells : All (Fits s) todo
