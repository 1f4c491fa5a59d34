use Rattle.node_marks.specs.Ranks.{AreReached}
use Rattle.node_marks.proofs.rank_passes.reached.Given as goal

abbrev pub invariant-nodes : goal.invariant-nodes
invariant-nodes l = AreReached l.marks l.ranks l.made.items l.len l.i
