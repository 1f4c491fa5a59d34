use Rattle.std.proofs.Common.{Contains, take}
use Rattle.closed_page.specs.Spreading.{AreAgain}
use Rattle.closed_page.proofs.spreading.all_notes.Given as goal

abbrev pub invariant-loop-i : goal.invariant-loop-i
invariant-loop-i l = AreAgain l.labels.nodes l.numbers l.known l.index (Contains (take l.i l.order)) l.notes.items
