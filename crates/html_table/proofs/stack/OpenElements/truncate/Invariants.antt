use Rattle.std.proofs.Common.{◌≡◌, length, take}
use Rattle.html_table.proofs.stack.OpenElements.truncate.Given as goal

abbrev pub invariant-closing : goal.invariant-closing
invariant-closing l = take l.left l.self ≡ take l.left l.initial.self

abbrev pub decreases-closing : goal.decreases-closing
decreases-closing l = length l.self
