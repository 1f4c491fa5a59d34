use Rattle.std.proofs.Common.{◌≡◌, take}
use Rattle.tree_sem.proofs.forests.Trees.copy.Given as goal

abbrev pub invariant-loop-tree : goal.invariant-loop-tree
invariant-loop-tree l = l.copies.items ≡ take l.tree-index l.tree-items
