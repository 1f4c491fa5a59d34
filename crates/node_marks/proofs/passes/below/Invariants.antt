use Rattle.node_marks.specs.Passes.{AreBelow}
use Rattle.node_marks.proofs.passes.below.Given as goal

abbrev pub invariant-nodes : goal.invariant-nodes
invariant-nodes l = AreBelow l.parents l.marks l.made.items l.i
