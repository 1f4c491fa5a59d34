-- Edits of a page: changes that give no node more of what is asked for than the statements may give to all nodes.
--     insert_tree row k y             the row with y before the tree k, or behind all where there are fewer
--     Edit asked stmts page t u       t, which came of the page, becomes u by one edit
--     Edits asked stmts page t        the page becomes t by edits
--     ReachesByEdits                  after some edits a node matches the selector
use Rattle.std.specs.Prelude.{◌≡◌, ◌≢◌, ℕ, zero, suc, ◌≤◌, List, [], length, Some, Contains}
use Rattle.tree_sem.specs.Trees.{Row, no_nodes, node, LabelTree, leaf, node_at, edit_at, add_class}
use Rattle.tree_sem.specs.Cuts.{take_class, cut_at}
use Rattle.tree_sem.specs.Nodes.{IsNode}
use Rattle.sel_core.specs.Selectors.{Matches}
use Rattle.sel_text.specs.Selectors.{Selector}
use Rattle.jq_stmts.specs.Statements.{Statement}
use Rattle.lower_cover.specs.Outputs.{IsGiven, IsAllowed, HoldMoves}

abbrev pub insert_tree : Row → ℕ → LabelTree → Row
insert_tree no_nodes k y = node y.label y.below no_nodes
insert_tree (node l below next) zero y = node y.label y.below (node l below next)
insert_tree (node l below next) (suc k) y = node l below (insert_tree next k y)

-- the node with one child more, the k-th
abbrev pub insert_child : ℕ → LabelTree → LabelTree → LabelTree
insert_child k y t = record t { below = insert_tree t.below k y }

pub data Edit (asked : List ℕ) (stmts : List Statement) (page : LabelTree) : LabelTree → LabelTree → Type 0 where
  -- a node gets an atom that isn't asked for
  gets_other : (t : LabelTree) (v : List ℕ) (a : ℕ) → IsNode t v → (¬ Contains asked a) → Edit asked stmts page t (edit_at v (add_class a) t)
  -- a node gets an atom that a statement gives to all nodes
  gets_given : (t : LabelTree) (v : List ℕ) (a : ℕ) → IsNode t v → IsGiven stmts a → Edit asked stmts page t (edit_at v (add_class a) t)
  -- a node gets a child with a label that is allowed, at any place among its children
  gets_child : (t : LabelTree) (v : List ℕ) (k : ℕ) (l : List ℕ) → IsNode t v → IsAllowed asked stmts l → Edit asked stmts page t (edit_at v (insert_child k (leaf l)) t)
  -- a node gets, as a child at any place, a copy of a subtree that stands below the root's children, where the statements hold the page's moves
  gets_copy : (t : LabelTree) (v w : List ℕ) (k : ℕ) (s : LabelTree) → IsNode t v → node_at w t ≡ Some s → 2 ≤ length w → HoldMoves asked stmts page
      → Edit asked stmts page t (edit_at v (insert_child k s) t)
  -- a node loses an atom
  loses_atom : (t : LabelTree) (v : List ℕ) (a : ℕ) → IsNode t v → Edit asked stmts page t (edit_at v (take_class a) t)
  -- a node other than the root goes, with all below it
  goes : (t : LabelTree) (v : List ℕ) → IsNode t v → v ≢ [] → Edit asked stmts page t (cut_at v t)

pub data Edits (asked : List ℕ) (stmts : List Statement) (page : LabelTree) : LabelTree → Type 0 where
  begin : Edits asked stmts page page
  more : (t u : LabelTree) → Edits asked stmts page t → Edit asked stmts page t u → Edits asked stmts page u

abbrev pub ReachesByEdits : List ℕ → List Statement → LabelTree → Selector → Type 0
ReachesByEdits asked stmts page s = (t : LabelTree) × Edits asked stmts page t × (v : List ℕ) × Matches t v s
