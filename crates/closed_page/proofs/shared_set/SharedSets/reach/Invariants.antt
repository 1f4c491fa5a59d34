use Rattle.std.proofs.Common.{◌+◌, ◌-◌, length}
use Rattle.closed_page.proofs.shared_set.SharedSets.reach.Given as goal

abbrev pub invariant-ones : goal.invariant-ones
invariant-ones l = record {}

abbrev pub decreases-ones : goal.decreases-ones
decreases-ones l = l.place + 1 - length l.self.ones.items
