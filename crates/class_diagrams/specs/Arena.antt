-- Arenas of diagrams, and the decision trees that references denote.
use Rattle.std.specs.Prelude.{◌≡◌, ℕ, ◌<◌, ◌≤◌, true, false, List, ◌++◌, length, slice_index_or, All}
use Rattle.class_diagrams.specs.declared.refs.Target.{Target}
use Rattle.class_diagrams.specs.declared.refs.Target.TheVariants.{Leaf, Branch}
use Rattle.limits.specs.declared.budgets.TheConstants.{MOST_BRANCHES}
use Rattle.class_diagrams.specs.Trees.{Tree, leaf, branch, IsOrdered, has_tree}

-- the second list is the first and then others
abbrev pub StartsWith : List Tree → List Tree → Type 0
StartsWith ts us = (rest : List Tree) × (us ≡ ts ++ rest)

-- the tree is a leaf or one of these
abbrev pub Holds : List Tree → Tree → Type 0
Holds ts (leaf value) = Unit {0}
Holds ts (branch atom low high) = has_tree (branch atom low high) ts ≡ true

-- both trees of each branch are there too
abbrev pub IsClosed : List Tree → Type 0
IsClosed ts = (atom : ℕ) (low high : Tree) → has_tree (branch atom low high) ts ≡ true → Holds ts low × Holds ts high

-- the tree of a reference: a leaf, or the branch of this number
abbrev pub tree_at : List Tree → Target → Tree
tree_at branches (Leaf value) = leaf value
tree_at branches (Branch k) = slice_index_or branches k (leaf false)

-- a leaf is of every arena, a number of those that hold as many branches
abbrev pub IsIn : List Tree → Target → Type 0
IsIn branches (Leaf value) = Unit {0}
IsIn branches (Branch k) = k < length branches

-- equal trees have equal references
abbrev pub AreSame : List Tree → Type 0
AreSame branches = (p q : Target) → IsIn branches p → IsIn branches q → tree_at branches p ≡ tree_at branches q → p ≡ q

-- an arena of diagrams: the branches that it holds, each as its tree, and how many it may hold
pub record Arena : Type 0 where
  pub branches : List Tree
  pub limit : ℕ

-- what is true of each arena
pub record IsArena (a : Arena) : Type 0 where
  pub same : AreSame a.branches
  pub ordered : All IsOrdered a.branches
  pub closed : IsClosed a.branches
  pub in_limit : length a.branches ≤ a.limit
  pub small : a.limit ≤ MOST_BRANCHES
