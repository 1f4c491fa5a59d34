-- Growth in place: trees whose nodes keep their paths.
--     Grows t u       each node of t is a node of u at the same path, with at least its atoms
use Rattle.std.specs.Prelude.{◌≡◌, ℕ, List, Some, Contains}
use Rattle.tree_sem.specs.Trees.{LabelTree, node_at}

abbrev pub Grows : LabelTree → LabelTree → Type 0
Grows t u = (v : List ℕ) (s : LabelTree) → node_at v t ≡ Some s → (x : LabelTree) × (node_at v u ≡ Some x) × ((a : ℕ) → Contains s.label a → Contains x.label a)
