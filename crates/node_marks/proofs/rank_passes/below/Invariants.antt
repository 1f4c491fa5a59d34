use Rattle.std.proofs.Common.{length}
use Rattle.node_marks.specs.Ranks.{AreRanksBelow}
use Rattle.node_marks.proofs.rank_passes.below.Given as goal

abbrev pub invariant-nodes : goal.invariant-nodes
invariant-nodes l = AreRanksBelow l.parents l.ranks l.made.items (length l.parents) l.i
