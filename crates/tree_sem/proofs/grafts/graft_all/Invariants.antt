use Rattle.std.proofs.Common.{◌≡◌, take}
use Rattle.tree_sem.specs.Actions.{add_trees}
use Rattle.tree_sem.specs.Trees.{edit_at}
use Rattle.tree_sem.proofs.grafts.graft_all.Given as goal

abbrev pub invariant-loop-done : goal.invariant-loop-done
invariant-loop-done l = l.tree ≡ edit_at l.at (add_trees (take l.done l.tops)) l.initial.tree
