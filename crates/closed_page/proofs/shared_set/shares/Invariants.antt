use Rattle.std.proofs.Common.{◌≡◌, take}
use Rattle.closed_page.proofs.shared_set.shares.Given as goal

abbrev pub invariant-loop-i : goal.invariant-loop-i
invariant-loop-i l = l.shared.items ≡ take l.i l.sets
