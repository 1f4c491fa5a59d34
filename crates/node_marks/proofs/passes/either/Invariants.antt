use Rattle.node_marks.specs.Passes.{AreEither}
use Rattle.node_marks.proofs.passes.either.Given as goal

abbrev pub invariant-nodes : goal.invariant-nodes
invariant-nodes l = AreEither l.marks l.others l.made.items l.i
