use Rattle.std.proofs.Common.{◌≡◌, ◌+◌, ◌-◌, ℕ, length, get_or, None}
use Rattle.guard_simplify.proofs.number_set.reach.Given as goal

abbrev pub invariant-places : goal.invariant-places
invariant-places l = (k : ℕ) → get_or l.places.items k None ≡ get_or l.fn.places.items k None

abbrev pub decreases-places : goal.decreases-places
decreases-places l = l.number + 1 - length l.places.items
