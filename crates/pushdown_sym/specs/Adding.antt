-- Terms that are added to a disjunction, in an arena.
use Rattle.std.specs.Prelude.{ℕ, ◌==◌, if◌then◌else◌, List, [], ◌∷◌, map, Result}
use Rattle.class_diagrams.specs.References.{Reference}
use Rattle.class_diagrams.specs.declared.faults.DiagramFault.{DiagramFault}
use Rattle.class_diagrams.specs.Trees.{Tree, tand}
use Rattle.class_diagrams.specs.Arena.{tree_at, IsIn, Arena}
use Rattle.diagram_ops.specs.Steps.{Calculates}
use Rattle.diagram_ops.specs.Compositions.{tcompose, inner_results, tree_by}
use Rattle.simple_core.specs.declared.rules.Local.{Local}
use Rattle.simple_core.specs.declared.rules.Link.{Link}
use Rattle.simple_core.specs.declared.rules.Spawn.{Spawn}
use Rattle.simple_core.specs.declared.system.System.{System}
use Rattle.pushdown_sym.specs.CellMap.{Entries, place_in, trees_in}
use Rattle.pushdown_sym.specs.Terms.{CellTrees, Term, local_term, up_term, down_term, disjunction, disjunctions, next_tree, partial_results}

-- each cell is of the arena
abbrev pub AreIn : List Tree → Entries → Type 0
AreIn branches cells = (j a : ℕ) → IsIn branches (place_in cells j a)

-- the cell behind these in an arena, and all that is calculated for it
abbrev pub next_in : System → Arena → Entries → ℕ → ℕ → Tree
next_in s a cells j atom = next_tree s (trees_in a.branches cells) j atom

abbrev pub results_in : System → Arena → Entries → ℕ → ℕ → List Tree
results_in s a cells j atom = partial_results s (trees_in a.branches cells) j atom

-- the answer is the diagram with these terms added, and what comes besides is of the terms and of the disjunctions on the way
abbrev pub Adds : Arena → Arena → Reference → List Term → Result Reference DiagramFault → Type 0
Adds old new start ts result = Calculates old new (disjunctions (tree_at old.branches start) ts) (disjunction (tree_at old.branches start) ts) result

-- the terms of one rule, if it gives the atom
abbrev pub of_local : CellTrees → ℕ → ℕ → Local → List Term
of_local now j a r = if r.gives == a then local_term now j r ∷ [] else []

abbrev pub of_up : ℕ → Link → List Term
of_up a l = if l.to == a then up_term l ∷ [] else []

abbrev pub of_down : List Spawn → CellTrees → ℕ → ℕ → Link → List Term
of_down spawns now j a l = if l.to == a then map (down_term now j l) spawns else []

-- the term of a child, where these trees stand for the atoms that it sees
abbrev pub term_at : List Tree → Reference → Reference → (ℕ → Tree) → Term
term_at branches there child by = record {
  tree = tand (tree_at branches there) (tcompose (tree_at branches child) by);
  before = tree_at branches there ∷ inner_results (tree_at branches child) by;
}

-- the same with diagrams
abbrev pub child_term : Arena → Reference → Reference → List (ℕ × Reference) → Term
child_term a there child by = term_at a.branches there child (tree_by a.branches by)

-- each atom with its diagram
abbrev pub paired : (ℕ → Reference) → List ℕ → List (ℕ × Reference)
paired f atoms = map (λ b. (b, f b)) atoms
