-- A tree with other labels, and the tree that has nodes at given paths.
--     label_by nodes own v   the label that belongs to the path v, and no atoms if v is not there
--     relabelled f t         the tree t, where f gives the label for each path
--     with_node p row        the row after a node is added at the path p, with all nodes that this needs
--     shape_of nodes         the tree with nodes at these paths, where all labels are empty
use Rattle.std.specs.Prelude.{ℕ, zero, suc, List, [], ◌∷◌, if◌then◌else◌}
use Rattle.std.specs.Str.{bytes_eq}
use Rattle.tree_sem.specs.Trees.{LabelTree, Row, no_nodes, node}

abbrev pub label_by : List (List ℕ) → List (List ℕ) → List ℕ → List ℕ
label_by [] own v = []
label_by (n ∷ nodes) [] v = []
label_by (n ∷ nodes) (l ∷ own) v = if bytes_eq n v then l else label_by nodes own v

-- the same for a row whose first tree has the index k
abbrev pub relabelled_row : (List ℕ → List ℕ) → ℕ → Row → Row
relabelled_row f k no_nodes = no_nodes
relabelled_row f k (node l below next) = node (f (k ∷ [])) (relabelled_row (λ p. f (k ∷ p)) 0 below) (relabelled_row f (suc k) next)

abbrev pub relabelled : (List ℕ → List ℕ) → LabelTree → LabelTree
relabelled f t = record { label = f []; below = relabelled_row f 0 t.below }

-- the row with f applied below its k-th tree; empty trees are added up to that one if the row is shorter
abbrev pub row_with : (Row → Row) → ℕ → Row → Row
row_with f zero no_nodes = node [] (f no_nodes) no_nodes
row_with f zero (node l below next) = node l (f below) next
row_with f (suc k) no_nodes = node [] no_nodes (row_with f k no_nodes)
row_with f (suc k) (node l below next) = node l below (row_with f k next)

abbrev pub with_node : List ℕ → Row → Row
with_node [] row = row
with_node (k ∷ p) row = row_with (with_node p) k row

abbrev pub with_nodes : List (List ℕ) → Row → Row
with_nodes [] row = row
with_nodes (p ∷ nodes) row = with_node p (with_nodes nodes row)

unfoldable pub shape_of : List (List ℕ) → LabelTree
shape_of nodes = record { label = []; below = with_nodes nodes no_nodes }
