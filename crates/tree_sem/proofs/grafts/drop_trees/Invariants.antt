use Rattle.std.proofs.Common.{◌≡◌, ◌≤◌, length, take}
use Rattle.tree_sem.specs.Actions.{add_trees}
use Rattle.tree_sem.specs.Trees.{LabelTree, edit_at}
use Rattle.tree_sem.proofs.grafts.drop_trees.Given as goal

abbrev pub invariant-loop-left : goal.invariant-loop-left
invariant-loop-left l = record {
  within : l.left ≤ length l.tops;
  dropped : (t : LabelTree) → l.initial.tree ≡ edit_at l.at (add_trees (take l.count l.tops)) t → l.tree ≡ edit_at l.at (add_trees (take l.left l.tops)) t;
}

abbrev pub decreases-loop-left : goal.decreases-loop-left
decreases-loop-left l = l.left
