use Rattle.node_marks.specs.Ranks.{AreLesser}
use Rattle.node_marks.proofs.rank_passes.lesser.Given as goal

abbrev pub invariant-nodes : goal.invariant-nodes
invariant-nodes l = AreLesser l.ranks l.others l.made.items l.len l.i
