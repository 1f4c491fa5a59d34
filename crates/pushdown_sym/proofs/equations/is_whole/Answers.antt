use Rattle.std.proofs.Common.{◌∙◌}
use Rattle.pushdown_sym.proofs.equations.is_whole.Goals as goal

pub same-requires-clause-second : goal.same-requires-clause-second
same-requires-clause-second c = c.leaf.ensures.inside c.args.d.now.branches

pub returns-clause-whole : goal.returns-clause-whole
returns-clause-whole c = λ same. c.same.ensures.same.0 same ∙ c.leaf.ensures.tree c.args.d.now.branches
