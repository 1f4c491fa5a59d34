use Rattle.std.proofs.Common.{length}
use Rattle.node_marks.specs.Ranks.{AreRanksFarBelow}
use Rattle.node_marks.proofs.rank_passes.far_below.Given as goal

abbrev pub invariant-nodes : goal.invariant-nodes
invariant-nodes l = AreRanksFarBelow l.parents l.ranks l.made.items (length l.parents) l.i
