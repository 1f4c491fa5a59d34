use Rattle.sel_text.specs.Parts.{selector_from}
use Rattle.sel_core.proofs.Groups.{IsTried, left_over}
use Rattle.sel_core.proofs.matching.nearest.Given as goal

abbrev pub invariant-nodes : goal.invariant-nodes
invariant-nodes l = IsTried l.node (selector_from l.parts l.joins) l.above

abbrev pub decreases-nodes : goal.decreases-nodes
decreases-nodes l = left_over l.above
