-- The effect on an arena of an operation that gives a diagram.
use Rattle.std.specs.Prelude.{◌≡◌, ◌<◌, List, length, Result, Ok, Err}
use Rattle.class_diagrams.specs.declared.refs.Target.{Target}
use Rattle.class_diagrams.specs.declared.faults.DiagramFault.{DiagramFault}
use Rattle.class_diagrams.specs.declared.faults.DiagramFault.TheVariants.{Full, Memory}
use Rattle.class_diagrams.specs.Trees.{Tree, tand, tor, with_branches}
use Rattle.class_diagrams.specs.Arena.{StartsWith, tree_at, IsIn, Arena, IsArena}

-- the trees of both and of either of two references
abbrev pub and_of : Arena → Target → Target → Tree
and_of a f g = tand (tree_at a.branches f) (tree_at a.branches g)

abbrev pub or_of : Arena → Target → Target → Tree
or_of a f g = tor (tree_at a.branches f) (tree_at a.branches g)

-- the branches that an arena holds, and behind them those of a tree that it does not hold
abbrev pub held_with : Arena → Tree → List Tree
held_with a tree = with_branches a.branches tree

-- an answer has the tree and is of the arena, which then holds its branches; a full arena has no room for them
abbrev pub IsAnswer : Arena → Arena → Tree → Result Target DiagramFault → Type 0
IsAnswer old new tree (Ok f) = IsIn new.branches f × (tree_at new.branches f ≡ tree) × (new.branches ≡ held_with old tree)
IsAnswer old new tree (Err Full) = old.limit < length (held_with old tree)
IsAnswer old new tree (Err Memory) = Unit {0}

-- the branches stay, and what comes besides is the tree's, in their order
pub record Gives (old new : Arena) (tree : Tree) (result : Result Target DiagramFault) : Type 0 where
  pub answer : IsAnswer old new tree result
  pub stays : StartsWith old.branches new.branches
  pub only : StartsWith new.branches (held_with old tree)
  pub limit : new.limit ≡ old.limit
  pub arena : IsArena new
