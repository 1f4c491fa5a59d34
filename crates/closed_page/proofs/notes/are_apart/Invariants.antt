use Rattle.std.proofs.Common.{◌+◌, ◌-◌}
use Rattle.closed_page.proofs.NoteLemmas.{AreApartTo}
use Rattle.closed_page.proofs.notes.are_apart.Given as goal

abbrev pub invariant-atoms : goal.invariant-atoms
invariant-atoms l = AreApartTo l.set l.other l.i l.j

abbrev pub decreases-atoms : goal.decreases-atoms
decreases-atoms l = (l.count - l.i) + (l.others - l.j)
