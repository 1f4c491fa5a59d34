use Rattle.std.proofs.Common.{sym, ◌∙◌}
use Rattle.guard_simplify.proofs.NodeSets.{node_found, node_missing}
use Rattle.guard_simplify.proofs.node_numbers.place_in.Goals as goal

pub returns-in-Some-clause-place : goal.returns-in-Some-clause-place
returns-in-Some-clause-place c = node_found c.args.nodes.now.keys c.args.node.now c.in-Some.place (sym c.in-Some.ensures.index)

pub returns-in-None-clause-place : goal.returns-in-None-clause-place
returns-in-None-clause-place c = c.len.ensures.len ∙ node_missing c.args.nodes.now.keys c.args.node.now (sym c.in-None.ensures.index)
