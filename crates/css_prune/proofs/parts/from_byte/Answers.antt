use Rattle.std.proofs.Common.{sym, ◌∙◌}
use Rattle.css_prune.proofs.PartLemmas.{none_there, first_there}
use Rattle.css_prune.proofs.parts.from_byte.Goals as goal

pub returns-in-None-clause-gives : goal.returns-in-None-clause-gives
returns-in-None-clause-gives c = c.from_offset.ensures ∙ sym (none_there c.args.byte c.args.text.now c.in-None.ensures)

pub returns-in-Some-clause-gives : goal.returns-in-Some-clause-gives
returns-in-Some-clause-gives c = c.from_offset-in-Some.ensures ∙ sym (first_there c.args.byte c.in-Some.at c.args.text.now c.in-Some.ensures.0 c.in-Some.ensures.1)
