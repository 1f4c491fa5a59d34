use Rattle.std.proofs.Common.{◌≡◌, ◌++◌, take}
use Rattle.closed_page.specs.Spreading.{all_again}
use Rattle.closed_page.proofs.spreading.note_again.Given as goal

abbrev pub invariant-loop-i : goal.invariant-loop-i
invariant-loop-i l = l.notes.items ≡ l.initial.notes.items ++ all_again l.known l.spot (take l.i l.places)
