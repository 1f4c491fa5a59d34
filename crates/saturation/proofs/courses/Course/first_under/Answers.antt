use Rattle.std.proofs.Common.{sym, ◌∙◌}
use Rattle.saturation.proofs.courses.Course.first_under.Goals as goal

pub returns-then-is_shut : goal.returns-then-is_shut
returns-then-is_shut g c = sym (c.requires.gate (g.L.AtomSet.atoms c.args.parent.now) c.requires.growing (sym c.is_shut.ensures ∙ c.if-is_shut.true))
