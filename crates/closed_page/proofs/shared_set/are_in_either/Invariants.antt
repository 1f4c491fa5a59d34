use Rattle.std.proofs.Common.{◌⊎◌, ℕ, take, Contains}
use Rattle.closed_page.proofs.shared_set.are_in_either.Given as goal

abbrev pub invariant-loop-i : goal.invariant-loop-i
invariant-loop-i l = (a : ℕ) → Contains (take l.i l.set) a → Contains l.first a ⊎ Contains l.second a
