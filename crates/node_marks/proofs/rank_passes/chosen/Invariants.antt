use Rattle.node_marks.specs.Ranks.{AreChosen}
use Rattle.node_marks.proofs.rank_passes.chosen.Given as goal

abbrev pub invariant-nodes : goal.invariant-nodes
invariant-nodes l = AreChosen l.marks l.ranks l.made.items l.len l.i
