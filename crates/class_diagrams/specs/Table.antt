-- The unique table, and the decision trees that its branches denote.
use Rattle.std.specs.Prelude.{◌≡◌, ℕ, ◌+◌, ◌*◌, ◌<◌, List, [], ◌∷◌, ◌++◌, slice_get, Some}
use Rattle.class_diagrams.specs.declared.table.BranchNode.{BranchNode}
use Rattle.class_diagrams.specs.declared.refs.Target.{Target}
use Rattle.class_diagrams.specs.declared.refs.Target.TheVariants.{Leaf, Branch}
use Rattle.class_diagrams.specs.Numbers.{number_of}
use Rattle.class_diagrams.specs.Trees.{Tree, branch}
use Rattle.class_diagrams.specs.Arena.{tree_at, Arena, IsArena}

-- the tree of a stored branch
abbrev pub tree_by : List Tree → BranchNode → Tree
tree_by branches b = branch b.atom (tree_at branches b.low) (tree_at branches b.high)

-- the branch as one number
abbrev pub branch_key : BranchNode → ℕ
branch_key b = b.atom * 18446744073709551616 + number_of b.low * 4294967296 + number_of b.high

-- the trees of stored branches, behind those of the ones before
abbrev pub trees_behind : List Tree → List BranchNode → List Tree
trees_behind before [] = before
trees_behind before (b ∷ bs) = trees_behind (before ++ tree_by before b ∷ []) bs

abbrev pub trees_of : List BranchNode → List Tree
trees_of nodes = trees_behind [] nodes

-- a leaf, or a branch of smaller number
abbrev pub IsBefore : ℕ → Target → Type 0
IsBefore n (Leaf value) = Unit {0}
IsBefore n (Branch k) = k < n

abbrev pub arena_of : List BranchNode → ℕ → Arena
arena_of nodes limit = record { branches = trees_of nodes; limit = limit }

-- what is true of each table: the parts of a branch have smaller numbers, and the trees are an arena's
pub record IsTable (nodes : List BranchNode) (limit : ℕ) : Type 0 where
  pub before : (k : ℕ) (b : BranchNode) → slice_get nodes k ≡ Some b → IsBefore k b.low × IsBefore k b.high
  pub arena : IsArena (arena_of nodes limit)
