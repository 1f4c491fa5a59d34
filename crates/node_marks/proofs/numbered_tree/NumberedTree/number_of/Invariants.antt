use Rattle.std.proofs.Common.{◌≡◌, ◌<◌, take}
use Rattle.tree_sem.specs.Trees.{count_of}
use Rattle.node_marks.specs.Marks.{path_at}
use Rattle.node_marks.proofs.numbered_tree.NumberedTree.number_of.Given as goal

abbrev pub invariant-levels : goal.invariant-levels
invariant-levels l = record { within : l.found < count_of l.self; part : path_at l.self l.found ≡ take l.level l.at }
