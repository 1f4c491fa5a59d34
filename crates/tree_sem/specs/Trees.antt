-- Trees whose nodes have labels, and their nodes by their paths.
--     Row             trees, one after another: no_nodes, or a first tree and the rest
--     LabelTree       a label, and the row of trees below
--     node_at         the tree at a path
--     label_at        its label, and children_at how many children it has
--     edit_at         the tree with a change at a path, and edit_each with one at each of some paths
--     count_of        how many nodes there are
use Rattle.std.specs.Prelude.{ℕ, zero, suc, ◌+◌, List, [], ◌∷◌, Option, Some, None, option_map, option_and_then, fold}
use Rattle.tp_base.specs.Classes.{with_class}

-- Trees in a row. `node l below next` is a tree with the label l and the trees `below` it, and then the trees `next`.
pub data Row : Type 0 where
  no_nodes : Row
  node : (label : List ℕ) (below next : Row) → Row

pub record LabelTree : Type 0 where
  pub label : List ℕ
  pub below : Row

abbrev pub leaf : List ℕ → LabelTree
leaf l = record { label = l; below = no_nodes }

-- the trees, as a list
abbrev pub trees : Row → List LabelTree
trees no_nodes = []
trees (node l below next) = record { label = l; below = below } ∷ trees next

-- the tree of this number
abbrev pub tree_of : Row → ℕ → Option LabelTree
tree_of no_nodes k = None
tree_of (node l below next) zero = Some (record { label = l; below = below })
tree_of (node l below next) (suc k) = tree_of next k

-- how many trees there are
abbrev pub length_of : Row → ℕ
length_of no_nodes = 0
length_of (node l below next) = suc (length_of next)

-- the trees, and then one more
abbrev pub push_tree : Row → LabelTree → Row
push_tree no_nodes t = node t.label t.below no_nodes
push_tree (node l below next) t = node l below (push_tree next t)

-- the trees, with f at the tree of this number
abbrev pub edit_tree : (LabelTree → LabelTree) → Row → ℕ → Row
edit_tree f no_nodes k = no_nodes
edit_tree f (node l below next) zero = let t = f (record { label = l; below = below }) in node t.label t.below next
edit_tree f (node l below next) (suc k) = node l below (edit_tree f next k)

-- how many nodes there are
abbrev pub nodes_of : Row → ℕ
nodes_of no_nodes = 0
nodes_of (node l below next) = suc (nodes_of below + nodes_of next)

abbrev pub count_of : LabelTree → ℕ
count_of t = suc (nodes_of t.below)

-- the tree at a path, where there is a node
abbrev pub node_at : List ℕ → LabelTree → Option LabelTree
node_at [] t = Some t
node_at (k ∷ p) t = option_and_then (node_at p) (tree_of t.below k)

-- the label at a path
abbrev pub label_at : List ℕ → LabelTree → Option (List ℕ)
label_at p t = option_map (λ n. n.label) (node_at p t)

-- how many children the node at a path has
abbrev pub children_at : List ℕ → LabelTree → Option ℕ
children_at p t = option_map (λ n. length_of n.below) (node_at p t)

-- the tree with f at the node of a path, where there is one
abbrev pub edit_at : List ℕ → (LabelTree → LabelTree) → LabelTree → LabelTree
edit_at [] f t = f t
edit_at (k ∷ p) f t = record t { below = edit_tree (edit_at p f) t.below k }

-- the tree with f at the node of each path, one path after another
abbrev pub edit_each : List (List ℕ) → (LabelTree → LabelTree) → LabelTree → LabelTree
edit_each at f t = fold (λ u p. edit_at p f u) t at

-- the node with one class more
abbrev pub add_class : ℕ → LabelTree → LabelTree
add_class a t = record t { label = with_class a t.label }

-- the node with a leaf as its last child
abbrev pub add_child : List ℕ → LabelTree → LabelTree
add_child l t = record t { below = push_tree t.below (leaf l) }

-- the node with one tree more as its last child
abbrev pub add_tree : LabelTree → LabelTree → LabelTree
add_tree u t = record t { below = push_tree t.below u }
