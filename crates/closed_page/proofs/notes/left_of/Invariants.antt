use Rattle.std.proofs.Common.{◌≡◌, take}
use Rattle.closed_page.specs.Gains.{new_of}
use Rattle.closed_page.proofs.notes.left_of.Given as goal

abbrev pub invariant-loop-i : goal.invariant-loop-i
invariant-loop-i l = l.left.items ≡ new_of l.own (take l.i l.set)
