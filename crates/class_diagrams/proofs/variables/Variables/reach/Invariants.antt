use Rattle.std.proofs.Common.{◌≡◌, ◌+◌, ◌-◌, ℕ, None, length, get_or}
use Rattle.class_diagrams.proofs.variables.Variables.reach.Given as goal

abbrev pub invariant-places : goal.invariant-places
invariant-places l = (n : ℕ) → get_or l.self-inside.places.items n None ≡ get_or l.fn.self n None

abbrev pub decreases-places : goal.decreases-places
decreases-places l = l.number + 1 - length l.self-inside.places.items
