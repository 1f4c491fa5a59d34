-- Trees that grow at their right end.
use Rattle.std.specs.Prelude.{ℕ, zero, suc, ◌+◌, List, [], ◌∷◌}
use Rattle.tree_sem.specs.Trees.{Row, no_nodes, node}

-- Trees in a row: none, or some and then one more, which has a name, a label and the trees below it.
pub data Growth : Type 0 where
  nothing : Growth
  more : (before : Growth) (name label : List ℕ) (below : Growth) → Growth

-- the name of the last tree, that of the last one below it, and so on
abbrev pub names_of : Growth → List (List ℕ)
names_of nothing = []
names_of (more before name label below) = name ∷ names_of below

-- one tree more: at the end of the row, or as the last one below the d-th of these names
abbrev pub add : ℕ → List ℕ → List ℕ → Growth → Growth
add zero name label trees = more trees name label nothing
add (suc d) name label nothing = more nothing name label nothing
add (suc d) name label (more before above at below) = more before above at (add d name label below)

-- how many nodes there are
abbrev pub size : Growth → ℕ
size nothing = 0
size (more before name label below) = size before + suc (size below)

-- the trees without their names, and then others
abbrev pub row_before : Growth → Row → Row
row_before nothing next = next
row_before (more before name label below) next = row_before before (node label (row_before below no_nodes) next)

abbrev pub row_of : Growth → Row
row_of trees = row_before trees no_nodes
