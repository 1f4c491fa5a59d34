use Rattle.std.proofs.Common.{[], ◌∷◌, ◌++◌, ap, ◌∙◌}
use Rattle.guard_simplify.specs.ForestRules.{kind_among}
use Rattle.guard_simplify.specs.Forests.{nodes_in}
use Rattle.guard_simplify.proofs.Pushes.{child_pushed}
use Rattle.guard_simplify.proofs.forest_nodes.RuleForest.spawn_children.Goals as goal

pub children-preserved : goal.children-preserved
children-preserved c =
    let below = c.in_ok-push.ensures.ok ∙ ap (λ z. z ++ c.children.child ∷ []) c.in_ok-below.ensures in
    let kind = c.kind.ensures ∙ ap (kind_among (nodes_in c.args.numbers.now)) (c.in_ok-node.ensures ∙ ap (λ z. (c.args.self.now.rule, z)) below) in
    child_pushed (nodes_in c.args.numbers.now) c.args.self.now.rule c.args.needs c.args.at.now c.args.spawns.now.items c.children.spawns.items c.push-in-children.new.self.items c.children.child c.kind.result
    c.children.invariant kind c.in_ok-push-2.ensures.items
