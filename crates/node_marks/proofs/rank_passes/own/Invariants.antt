use Rattle.node_marks.specs.Ranks.{AreOwn}
use Rattle.node_marks.proofs.rank_passes.own.Given as goal

abbrev pub invariant-nodes : goal.invariant-nodes
invariant-nodes l = AreOwn l.made.items l.len l.i
