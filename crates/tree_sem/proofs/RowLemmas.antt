-- The trees of a row by their numbers, and the nodes of a tree by their paths.
use Rattle.std.proofs.Common.{◌≡◌, ℕ, zero, suc, ◌<◌, ◌≤◌, List, [], ◌∷◌, ◌++◌, Option, Some, None, IsSome, option_and_then, refl, arith}
use Rattle.tree_sem.specs.Trees.{Row, no_nodes, node, LabelTree, tree_of, length_of, node_at}
use Rattle.tree_sem.specs.Order.{trees_after}

pub tree_of-within : (f : Row) (k : ℕ) → k < length_of f → IsSome (tree_of f k)
tree_of-within no_nodes k lt = absurd (omega arith)
tree_of-within (node l below next) zero lt = refl
tree_of-within (node l below next) (suc k) lt = tree_of-within next k (omega arith)

pub tree_of-past : (f : Row) (k : ℕ) → length_of f ≤ k → tree_of f k ≡ None
tree_of-past no_nodes k le = refl
tree_of-past (node l below next) zero le = absurd (omega arith)
tree_of-past (node l below next) (suc k) le = tree_of-past next k (omega arith)

pub tree_of-number : (f : Row) (k : ℕ) (s : LabelTree) → tree_of f k ≡ Some s → k < length_of f
tree_of-number no_nodes k s at = cc
tree_of-number (node l below next) zero s at = omega arith
tree_of-number (node l below next) (suc k) s at = omega (arith, tree_of-number next k s at)

-- a value that is there
pub there : {X : Type 0} (o : Option X) → IsSome o → (x : X) × (o ≡ Some x)
there None h = cc
there (Some x) h = (x, refl)

-- the node of a path in two parts
pub node_at-append : (a q : List ℕ) (t : LabelTree) → node_at (a ++ q) t ≡ option_and_then (node_at q) (node_at a t)
node_at-append [] q t = refl
node_at-append (k ∷ a) q t = elim (tree_of t.below k) as (λ o. option_and_then (node_at (a ++ q)) o ≡ option_and_then (node_at q) (option_and_then (node_at a) o)) [
  | None ↦ refl
  | Some s ↦ node_at-append a q s
]

-- a child that is there has a parent
pub node_at-child : (a : List ℕ) (k : ℕ) (t : LabelTree) → IsSome (node_at (a ++ k ∷ []) t) → (s : LabelTree) × (u : LabelTree) × (node_at a t ≡ Some s) × (tree_of s.below k ≡ Some u)
node_at-child a k t is =
    elim (node_at a t) as (λ o. node_at a t ≡ o → IsSome (option_and_then (node_at (k ∷ [])) o) → (s : LabelTree) × (u : LabelTree) × (node_at a t ≡ Some s) × (tree_of s.below k ≡ Some u)) [
      | None ↦ λ e h. cc
      | Some s ↦ λ e h. elim (tree_of s.below k) as (λ o. tree_of s.below k ≡ o → IsSome (option_and_then (node_at []) o) → (s : LabelTree) × (u : LabelTree) × (node_at a t ≡ Some s) × (tree_of s.below k ≡ Some u)) [
        | None ↦ λ e' h'. cc
        | Some u ↦ λ e' h'. (s, u, e, e')
      ] refl h
    ] refl (rw node_at-append at is)

pub child_node_at : (a : List ℕ) (k : ℕ) (t s u : LabelTree) → node_at a t ≡ Some s → tree_of s.below k ≡ Some u → node_at (a ++ k ∷ []) t ≡ Some u
child_node_at a k t s u at here = rw (node_at-append, at, here)

-- a row with a first tree
pub row_first : (f : Row) (u : LabelTree) → tree_of f zero ≡ Some u → f ≡ node u.label u.below (trees_after f zero)
row_first no_nodes u at = cc
row_first (node l below next) u at = let same : record { label = l; below = below } ≡ u = cc in λ i. node (same i).label (same i).below next

-- the trees after one: the next one first
pub trees_after-next : (f : Row) (k : ℕ) (u : LabelTree) → tree_of f (suc k) ≡ Some u → trees_after f k ≡ node u.label u.below (trees_after f (suc k))
trees_after-next no_nodes k u at = cc
trees_after-next (node l below next) zero u at = row_first next u at
trees_after-next (node l below next) (suc k) u at = trees_after-next next k u at

pub trees_after-last : (f : Row) (k : ℕ) → length_of f ≤ suc k → trees_after f k ≡ no_nodes
trees_after-last no_nodes k le = refl
trees_after-last (node l below no_nodes) zero le = refl
trees_after-last (node l below (node l' below' next)) zero le = absurd (omega arith)
trees_after-last (node l below next) (suc k) le = trees_after-last next k (omega arith)
