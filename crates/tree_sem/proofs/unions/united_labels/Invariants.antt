use Rattle.std.proofs.Common.{◌≡◌, map, take}
use Rattle.tree_sem.specs.Table.{united}
use Rattle.tree_sem.proofs.unions.united_labels.Given as goal

abbrev pub invariant-loop-path : goal.invariant-loop-path
invariant-loop-path l = l.labels.items ≡ map (united l.slots l.classes) (take l.path-index l.at)
