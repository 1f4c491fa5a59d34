use Rattle.tree_sem.specs.Table.{tree_in, weight}
use Rattle.tree_sem.specs.Trees.{count_of}
use Rattle.tree_sem.proofs.CutLemmas.{IsFreeing}
use Rattle.tree_sem.proofs.cutting.release.Given as goal

abbrev pub invariant-nodes : goal.invariant-nodes
invariant-nodes l = IsFreeing l.initial.slots l.slots (count_of (tree_in l.initial.slots l.top)) l.next

abbrev pub decreases-nodes : goal.decreases-nodes
decreases-nodes l = weight l.slots
