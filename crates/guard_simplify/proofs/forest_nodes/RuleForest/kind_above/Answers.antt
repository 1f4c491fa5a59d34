use Rattle.std.proofs.Common.{Some, ap, ◌∙◌, ◌-◌, length, take, arith}
use Rattle.guard_simplify.specs.ForestRules.{kind_among}
use Rattle.guard_simplify.specs.Forests.{nodes_in}
use Rattle.guard_simplify.proofs.PathEnds.{some_above}
use Rattle.guard_simplify.proofs.forest_nodes.RuleForest.kind_above.Goals as goal

pub returns : goal.returns
returns c =
    let popped = c.pop.ensures.rest ∙ ap (λ z. take (length z - 1) z) c.in_ok-above.ensures in
    ap Some (c.kind.ensures ∙ ap (kind_among (nodes_in c.args.numbers.now)) (c.in_ok-node.ensures ∙ ap (λ z. (c.args.self.now.rule, z)) popped))
    ∙ some_above (nodes_in c.args.numbers.now) c.args.self.now.rule c.args.at.now (omega (arith, c.len.ensures, c.if-len-lt2.false))
