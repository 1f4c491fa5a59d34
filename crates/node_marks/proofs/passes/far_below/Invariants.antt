use Rattle.node_marks.specs.Passes.{AreFarBelow}
use Rattle.node_marks.proofs.passes.far_below.Given as goal

abbrev pub invariant-nodes : goal.invariant-nodes
invariant-nodes l = AreFarBelow l.parents l.marks l.made.items l.i
