use Rattle.std.proofs.Common.{◌-◌, length}
use Rattle.closed_page.specs.Notes.{AreAlike}
use Rattle.closed_page.proofs.notes.alike_to.Given as goal

abbrev pub invariant-notes : goal.invariant-notes
invariant-notes l = AreAlike l.notes l.i l.end

abbrev pub decreases-notes : goal.decreases-notes
decreases-notes l = length l.notes - l.end
