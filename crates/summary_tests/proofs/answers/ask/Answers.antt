use Rattle.std.proofs.Common.{All, Contains, sym, subst}
use Rattle.simple_core.specs.declared.system.System.{System}
use Rattle.summary_tests.proofs.answers.ask.Goals as goal

pub gain-requires-clause-visible : goal.gain-requires-clause-visible
gain-requires-clause-visible g c = subst (λ (s : System). All (Contains s.visible) c.args.parent.now) (sym c.requires) (c.within.ensures.members.0 c.if-not-within.false)
