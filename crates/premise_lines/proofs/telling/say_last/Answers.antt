use Rattle.premise_lines.proofs.StopLemmas.{either_way}
use Rattle.premise_lines.proofs.telling.say_last.Goals as goal

pub returns-clause-line : goal.returns-clause-line
returns-clause-line g c = rw (c.fixed_line.ensures c.requires) at (either_way c.put_all.result _ _ _ c.put_all.ensures.ok c.put_all.ensures.err)
