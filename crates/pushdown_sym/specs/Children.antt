-- The distinct children that links look at.
--     child_by cells l c           the child of a spawn, by a link
--     children_of s cells a        all that the links that give an atom look at, in order
--     standing_of s cells a        those of them whose diagram isn't false
--     different children           each of them where it comes first
--     beneath cells j children     those of them whose atom a node of kind j may have
--     term_of ts cells j child     what a node of kind j gets by it
use Rattle.std.specs.Prelude.{◌≡◌, ℕ, Bool, not, ◌==◌, ◌&&◌, if◌then◌else◌, List, [], ◌∷◌, fold, map, filter, Option, None, Some, ◌⊎◌}
use Rattle.std.specs.List.{flat_map}
use Rattle.std.specs.Map.{lookup}
use Rattle.indexmap.specs.IndexSet.{insert_key}
use Rattle.class_diagrams.specs.Numbers.{number_of}
use Rattle.class_diagrams.specs.Trees.{Tree}
use Rattle.simple_core.specs.declared.rules.Link.{Link}
use Rattle.simple_core.specs.declared.rules.Spawn.{Spawn}
use Rattle.simple_core.specs.declared.system.System.{System}
use Rattle.pushdown_sym.specs.declared.gathering.Child.{Child}
use Rattle.pushdown_sym.specs.CellMap.{Entries, place_in, trees_in, is_false, may_have}
use Rattle.pushdown_sym.specs.Givers.{of_place}
use Rattle.pushdown_sym.specs.Terms.{Term}
use Rattle.pushdown_sym.specs.Adding.{term_at}

abbrev pub child_by : Entries → Link → Spawn → Child
child_by cells l c = record { needs = c.needs; diagram = place_in cells c.kind l.from }

abbrev pub children_by : Entries → List Spawn → Link → List Child
children_by cells spawns l = map (child_by cells l) spawns

abbrev pub children_of : System → Entries → ℕ → List Child
children_of s cells a = flat_map (children_by cells s.child) (filter (λ l. l.to == a) s.down)

-- its diagram holds under some label
abbrev pub stands : Child → Bool
stands c = not (is_false c.diagram)

abbrev pub standing_by : Entries → Link → Spawn → List Child
standing_by cells l c = filter stands (child_by cells l c ∷ [])

abbrev pub standing_each : Entries → List Spawn → Link → List Child
standing_each cells spawns l = flat_map (standing_by cells l) spawns

-- of the spawn rules at these places
abbrev pub standing_at : Entries → List Spawn → List ℕ → Link → List Child
standing_at cells spawns places l = flat_map (of_place (standing_by cells l) spawns) places

abbrev pub standing_of : System → Entries → ℕ → List Child
standing_of s cells a = filter stands (children_of s cells a)

abbrev pub same_child : Child → Child → Bool
same_child c d = (c.needs == d.needs) && (number_of c.diagram == number_of d.diagram)

-- the children, and this one last unless it is there
abbrev pub with_child : List Child → Child → List Child
with_child = insert_key same_child

abbrev pub different : List Child → List Child
different children = fold with_child [] children

abbrev pub beneath : Entries → ℕ → List Child → List Child
beneath cells j children = filter (λ c. may_have cells j c.needs) children

-- the children serve for the cell of a kind and an atom: beneath a node of the kind, they are the different ones that the links that give the atom look at
abbrev pub DoServe : System → Entries → ℕ → ℕ → List Child → Type 0
DoServe s cells j a children = beneath cells j children ≡ beneath cells j (different (standing_of s cells a))

-- the child's diagram under the label of the node
abbrev pub term_of : List Tree → Entries → ℕ → Child → Term
term_of branches cells j c = term_at branches (place_in cells j c.needs) c.diagram (trees_in branches cells j)

-- the same, of a child that there may be
abbrev pub terms_by : List Tree → Entries → ℕ → Child → List Term
terms_by branches cells j c = if may_have cells j c.needs then term_of branches cells j c ∷ [] else []

-- the children that are kept for an atom
abbrev pub kept_in : List (ℕ × List Child) → ℕ → Option (List Child)
kept_in entries a = lookup (λ key. a == key) entries

-- for each atom nothing is kept, or the different children that stand
abbrev pub AreKept : System → Entries → List (ℕ × List Child) → Type 0
AreKept s cells entries = (a : ℕ) → (kept_in entries a ≡ None) ⊎ (kept_in entries a ≡ Some (different (standing_of s cells a)))
