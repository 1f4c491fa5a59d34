-- The order of a document: a node comes before what is below it, and that before the nodes on its right.
--     Before          the order on paths
--     paths_of        the paths of a tree's nodes in this order
--     rest_of         the paths of the nodes after one of them
use Rattle.std.specs.Prelude.{◌≡◌, ◌⊎◌, ℕ, zero, suc, ◌<◌, List, [], ◌∷◌, ◌++◌, map, option_map, unwrap_or}
use Rattle.tree_sem.specs.Trees.{Row, no_nodes, node, LabelTree, tree_of}

-- v comes before w: w goes on where v ends, or turns off to a later child
abbrev pub Before : List ℕ → List ℕ → Type 0
Before v [] = ⊥
Before [] (l ∷ w) = Unit {0}
Before (k ∷ v) (l ∷ w) = (k < l) ⊎ ((k ≡ l) × Before v w)

-- the paths of the nodes of a row, whose first tree is the child k
abbrev pub paths_from : ℕ → Row → List (List ℕ)
paths_from k no_nodes = []
paths_from k (node l below next) = map (λ p. k ∷ p) ([] ∷ paths_from 0 below) ++ paths_from (suc k) next

-- the paths of the nodes of a tree
abbrev pub paths_of : LabelTree → List (List ℕ)
paths_of t = [] ∷ paths_from 0 t.below

-- the trees after the one of this number
abbrev pub trees_after : Row → ℕ → Row
trees_after no_nodes k = no_nodes
trees_after (node l below next) zero = next
trees_after (node l below next) (suc k) = trees_after next k

-- the paths of the nodes after the one of a path: what is below it, and then the trees after each on the way to it
abbrev pub rest_of : List ℕ → LabelTree → List (List ℕ)
rest_of [] t = paths_from 0 t.below
rest_of (k ∷ p) t = map (λ q. k ∷ q) (unwrap_or (option_map (rest_of p) (tree_of t.below k)) []) ++ paths_from (suc k) (trees_after t.below k)
