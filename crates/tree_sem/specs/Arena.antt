-- A tree as an arena: each node has a number. At its place stand its label, its children's numbers and its parent's.
use Rattle.std.specs.Prelude.{◌≡◌, ℕ, zero, suc, ◌<◌, ◌==◌, List, [], ◌∷◌, ◌++◌, if◌then◌else◌, Option, Some, None, option_map, option_and_then, unwrap_or, slice_get}
use Rattle.tree_sem.specs.Trees.{Row, no_nodes, node, LabelTree, leaf}

-- the trees that f gives for the numbers
abbrev pub row_by : (ℕ → LabelTree) → List ℕ → Row
row_by f [] = no_nodes
row_by f (c ∷ cs) = node (f c).label (f c).below (row_by f cs)

module _ (label : ℕ → List ℕ) (kids : ℕ → List ℕ) where
  -- the tree of the node i, as deep as n levels
  abbrev pub tree_to : ℕ → ℕ → LabelTree
  tree_to zero i = leaf []
  tree_to (suc n) i = record { label = label i; below = row_by (tree_to n) (kids i) }

-- the number of the node at the path p below the node i
abbrev pub place_from : (ℕ → List ℕ) → ℕ → List ℕ → Option ℕ
place_from kids i [] = Some i
place_from kids i (k ∷ p) = option_and_then (λ c. place_from kids c p) (slice_get (kids i) k)

-- the place of a number in a list
abbrev pub number_in : ℕ → List ℕ → ℕ
number_in i [] = 0
number_in i (c ∷ cs) = if c == i then 0 else suc (number_in i cs)

-- the path of the node i, by its parents, as long as n numbers
abbrev pub path_up : (ℕ → List ℕ) → (ℕ → Option ℕ) → ℕ → ℕ → List ℕ
path_up kids parent zero i = []
path_up kids parent (suc n) i = unwrap_or (option_map (λ j. path_up kids parent n j ++ number_in i (kids j) ∷ []) (parent i)) []

-- Each child is one level deeper than its parent, is its child once, and names it. The node 0 is no child. No level is n or deeper.
pub record IsArena (n : ℕ) (kids : ℕ → List ℕ) (parent : ℕ → Option ℕ) : Type 0 where
  pub depth : ℕ → ℕ
  pub first : depth 0 ≡ 0
  pub shallow : (i : ℕ) → depth i < n
  pub deeper : (i k c : ℕ) → slice_get (kids i) k ≡ Some c → depth c ≡ suc (depth i)
  pub up : (i k c : ℕ) → slice_get (kids i) k ≡ Some c → parent c ≡ Some i
  pub once : (i k l c : ℕ) → slice_get (kids i) k ≡ Some c → slice_get (kids i) l ≡ Some c → k ≡ l
  pub root : parent 0 ≡ None
