use Rattle.node_marks.specs.Ranks.{AreUpTo}
use Rattle.node_marks.proofs.rank_passes.up_to.Given as goal

abbrev pub invariant-nodes : goal.invariant-nodes
invariant-nodes l = AreUpTo l.ranks l.most l.made.items l.len l.i
