-- The effect on an arena of a computation of several operations.
use Rattle.std.specs.Prelude.{◌≡◌, ℕ, ◌<◌, true, List, [], ◌∷◌, fold, length, Result, Ok, Err}
use Rattle.class_diagrams.specs.References.{Reference}
use Rattle.class_diagrams.specs.declared.faults.DiagramFault.{DiagramFault}
use Rattle.class_diagrams.specs.declared.faults.DiagramFault.TheVariants.{Full, Memory}
use Rattle.class_diagrams.specs.Trees.{Tree, has_tree, with_branches, tand, tor}
use Rattle.class_diagrams.specs.Arena.{StartsWith, tree_at, IsIn, Arena, IsArena}
use Rattle.diagram_ops.specs.Compositions.{tcompose, inner_results, tree_by}

-- the branches that are held, and behind them those of the steps' results that are not
abbrev pub held_with_all : List Tree → List Tree → List Tree
held_with_all held results = fold with_branches held results

-- each of the first trees is one of the second
abbrev pub AreAmong : List Tree → List Tree → Type 0
AreAmong ts us = (t : Tree) → has_tree t ts ≡ true → has_tree t us ≡ true

-- an answer has the tree and is of the arena; a full arena has no room for the results of the steps
abbrev pub IsResult : Arena → Arena → List Tree → Tree → Result Reference DiagramFault → Type 0
IsResult old new results tree (Ok f) = IsIn new.branches f × (tree_at new.branches f ≡ tree)
IsResult old new results tree (Err Full) = old.limit < length (held_with_all old.branches results)
IsResult old new results tree (Err Memory) = Unit {0}

-- the branches stay, and what comes besides is of the steps' results
pub record Brings (old new : Arena) (results : List Tree) : Type 0 where
  pub stays : StartsWith old.branches new.branches
  pub only : AreAmong new.branches (held_with_all old.branches results)
  pub limit : new.limit ≡ old.limit
  pub arena : IsArena new

pub record Calculates (old new : Arena) (results : List Tree) (tree : Tree) (result : Result Reference DiagramFault) : Type 0 where
  pub answer : IsResult old new results tree result
  pub brings : Brings old new results

-- the composition of a diagram with those in the place of its atoms, and its inner results
abbrev pub composed_tree : Arena → Reference → List (ℕ × Reference) → Tree
composed_tree a f by = tcompose (tree_at a.branches f) (tree_by a.branches by)

abbrev pub composed_results : Arena → Reference → List (ℕ × Reference) → List Tree
composed_results a f by = inner_results (tree_at a.branches f) (tree_by a.branches by)

-- what a branch becomes of the diagram in its atom's place and of what its low and its high diagram became
abbrev pub joined_tree : Arena → Reference → Reference → Reference → Tree
joined_tree a put low high = tor (tree_at a.branches low) (tand (tree_at a.branches put) (tree_at a.branches high))

abbrev pub joined_results : Arena → Reference → Reference → Reference → List Tree
joined_results a put low high = tand (tree_at a.branches put) (tree_at a.branches high) ∷ joined_tree a put low high ∷ []
