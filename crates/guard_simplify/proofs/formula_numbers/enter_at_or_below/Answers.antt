use Rattle.guard_simplify.proofs.NumberedLemmas.{entered_at_or_below}
use Rattle.guard_simplify.proofs.formula_numbers.enter_at_or_below.Goals as goal

pub returns : goal.returns
returns c =
    entered_at_or_below c.args.first c.args.keys.now.keys c.enter_one.new.keys.keys c.enter.new.keys.keys c.args.part c.in_ok-below.below c.enter.result c.in_ok-below.ensures (rw c.from_buf-parts.ensures.items at c.enter.ensures)
