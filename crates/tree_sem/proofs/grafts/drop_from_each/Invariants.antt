use Rattle.std.proofs.Common.{◌≡◌, ◌≤◌, length, take}
use Rattle.tree_sem.specs.Actions.{add_trees}
use Rattle.tree_sem.specs.Trees.{LabelTree, edit_each}
use Rattle.tree_sem.proofs.grafts.drop_from_each.Given as goal

abbrev pub invariant-loop-left : goal.invariant-loop-left
invariant-loop-left l = record {
  within : l.left ≤ length l.at;
  dropped : (t : LabelTree) → l.initial.tree ≡ edit_each (take l.count l.at) (add_trees l.tops) t → l.tree ≡ edit_each (take l.left l.at) (add_trees l.tops) t;
}

abbrev pub decreases-loop-left : goal.decreases-loop-left
decreases-loop-left l = l.left
