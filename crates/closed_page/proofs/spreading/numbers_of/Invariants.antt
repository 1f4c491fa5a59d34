use Rattle.closed_page.specs.Spreading.{AreNumbersOf}
use Rattle.closed_page.proofs.spreading.numbers_of.Given as goal

abbrev pub invariant-loop-i : goal.invariant-loop-i
invariant-loop-i l = AreNumbersOf l.labels.nodes l.notes l.numbers.items l.i
