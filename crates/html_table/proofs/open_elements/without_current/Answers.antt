use Rattle.std.proofs.Common.{sym, ◌∙◌}
use Rattle.html_table.proofs.OutwardLemmas.{current_closed}
use Rattle.html_table.proofs.open_elements.without_current.Goals as goal

pub returns-in-Some-clause-gives : goal.returns-in-Some-clause-gives
returns-in-Some-clause-gives c =
    (current_closed c.args.kind c.in-Some.current c.args.left c.args.«open».now c.requires.within (sym c.kind.ensures ∙ c.in-Some.is) (sym c.eq.ensures ∙ c.if-eq.true)).gives
