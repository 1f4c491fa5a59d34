-- Losses of a tree: of an atom, or of a node with all below it.
--     take_class      a node without one of its classes
--     cut_at          the tree without the node at a path, and without all below it
use Rattle.std.specs.Prelude.{ℕ, zero, suc, ◌-◌, List, option_map, unwrap_or}
use Rattle.tp_base.specs.Losses.{without_class}
use Rattle.tree_sem.specs.Trees.{Row, no_nodes, node, LabelTree, length_of, edit_at}
use Rattle.tree_sem.specs.Paths.{parent_of, last_number}

-- the node without a class
abbrev pub take_class : ℕ → LabelTree → LabelTree
take_class a t = record t { label = without_class a t.label }

-- the trees without the one of this number
abbrev pub drop_tree : Row → ℕ → Row
drop_tree no_nodes k = no_nodes
drop_tree (node l below next) zero = next
drop_tree (node l below next) (suc k) = node l below (drop_tree next k)

-- the node without its child of this number; the numbers of later children fall by one
abbrev pub drop_child : ℕ → LabelTree → LabelTree
drop_child k t = record t { below = drop_tree t.below k }

-- the tree without the node at the path; the root stays
abbrev pub cut_at : List ℕ → LabelTree → LabelTree
cut_at v t = unwrap_or (option_map (λ p. edit_at p (drop_child (last_number v)) t) (parent_of v)) t

-- the node without its last child, where it has one
abbrev pub drop_last : LabelTree → LabelTree
drop_last t = drop_child (length_of t.below - 1) t
