-- Two diagrams, split at the first atom of either.
use Rattle.std.specs.Prelude.{◌≡◌, ℕ, ◌+◌, ◌<◌, Bool, List}
use Rattle.class_diagrams.specs.declared.refs.Target.{Target}
use Rattle.class_diagrams.specs.declared.table.Pair.{Pair}
use Rattle.class_diagrams.specs.declared.table.Pair.TheVariants.{WithLeaf, Branches}
use Rattle.class_diagrams.specs.Trees.{Tree, leaf, branch, join, combine}
use Rattle.class_diagrams.specs.Arena.{tree_at, IsIn}

-- how many leaves and branches a tree has, those that come twice counted twice
abbrev pub size : Tree → ℕ
size (leaf value) = 1
size (branch atom low high) = 1 + size low + size high

-- both are of the arena, and smaller together than the two trees
abbrev pub AreSmaller : List Tree → Target × Target → Tree → Tree → Type 0
AreSmaller branches parts t u =
    IsIn branches parts.0 × IsIn branches parts.1 × (size (tree_at branches parts.0) + size (tree_at branches parts.1) < size t + size u)

-- the trees of two parts combined
abbrev pub combined : List Tree → (Bool → Tree → Tree) → Target × Target → Tree
combined branches leaf_rule parts = combine leaf_rule (tree_at branches parts.0) (tree_at branches parts.1)

-- the two trees combined are by the leaf's rule, or are joined of their parts combined
abbrev pub IsPair : List Tree → Target → Target → Pair → Type 0
IsPair branches f g (WithLeaf value other) =
    IsIn branches other
    × ((leaf_rule : Bool → Tree → Tree) → combined branches leaf_rule (f, g) ≡ leaf_rule value (tree_at branches other))
IsPair branches f g (Branches atom low high) =
    AreSmaller branches low (tree_at branches f) (tree_at branches g)
    × AreSmaller branches high (tree_at branches f) (tree_at branches g)
    × ((leaf_rule : Bool → Tree → Tree) → combined branches leaf_rule (f, g) ≡ join atom (combined branches leaf_rule low) (combined branches leaf_rule high))
