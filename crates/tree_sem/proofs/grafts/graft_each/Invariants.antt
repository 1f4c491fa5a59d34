use Rattle.std.proofs.Common.{◌≡◌, take}
use Rattle.tree_sem.specs.Actions.{add_trees}
use Rattle.tree_sem.specs.Trees.{edit_each}
use Rattle.tree_sem.proofs.grafts.graft_each.Given as goal

abbrev pub invariant-loop-done : goal.invariant-loop-done
invariant-loop-done l = l.tree ≡ edit_each (take l.done l.at) (add_trees l.tops) l.initial.tree
