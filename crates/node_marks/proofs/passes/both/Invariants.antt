use Rattle.node_marks.specs.Passes.{AreBoth}
use Rattle.node_marks.proofs.passes.both.Given as goal

abbrev pub invariant-nodes : goal.invariant-nodes
invariant-nodes l = AreBoth l.marks l.others l.made.items l.i
