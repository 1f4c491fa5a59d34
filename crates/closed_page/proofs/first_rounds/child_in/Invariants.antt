use Rattle.std.proofs.Common.{◌-◌, length}
use Rattle.closed_page.proofs.RunLemmas.{AreLeft}
use Rattle.closed_page.proofs.first_rounds.child_in.Given as goal

abbrev pub invariant-children : goal.invariant-children
invariant-children l = AreLeft l.row l.parent l.round l.i

abbrev pub decreases-children : goal.decreases-children
decreases-children l = length l.row - l.i
