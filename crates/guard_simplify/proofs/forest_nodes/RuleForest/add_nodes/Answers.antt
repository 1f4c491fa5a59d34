use Rattle.std.proofs.Common.{map, ap, ◌∙◌}
use Rattle.guard_simplify.specs.ForestRules.{placed}
use Rattle.guard_simplify.proofs.NodeSets.{inserted}
use Rattle.guard_simplify.proofs.Pushes.{node_entered}
use Rattle.guard_simplify.proofs.forest_nodes.RuleForest.add_nodes.Goals as goal

pub paths-preserved : goal.paths-preserved
paths-preserved c =
    let node = c.in_ok-node.field-0 in
    node_entered c.args.self.now.rule c.args.paths.now (map placed c.args.nodes.now.keys) (map placed c.paths.nodes.keys) (map placed c.insert.new.self.keys) c.paths.at-index c.at-item.result (placed node)
    c.paths.invariant c.in_ok-node.ensures c.at-item.is c.paths-test.true (ap (map placed) c.in_ok-insert.ensures.keys ∙ inserted c.paths.nodes.keys node)
