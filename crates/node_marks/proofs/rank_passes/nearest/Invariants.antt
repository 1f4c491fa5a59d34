use Rattle.std.proofs.Common.{length}
use Rattle.node_marks.specs.Ranks.{AreNearest}
use Rattle.node_marks.proofs.rank_passes.nearest.Given as goal

abbrev pub invariant-nodes : goal.invariant-nodes
invariant-nodes l = AreNearest l.parents l.ranks l.stops l.made.items (length l.parents) l.i
