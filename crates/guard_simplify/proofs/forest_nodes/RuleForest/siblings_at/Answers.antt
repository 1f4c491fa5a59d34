use Rattle.std.proofs.Common.{sym, ◌∙◌}
use Rattle.guard_simplify.proofs.PathEnds.{siblings_are}
use Rattle.guard_simplify.proofs.forest_nodes.RuleForest.siblings_at.Goals as goal

pub returns-in-Some : goal.returns-in-Some
returns-in-Some c = c.children.ensures ∙ siblings_are c.args.self.now.tree c.args.at.now c.pop.new.self c.in-Some.field-0 (sym c.in_ok-above.ensures ∙ c.in-Some.ensures.last)
