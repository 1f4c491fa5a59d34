use Rattle.std.proofs.Common.{◌<◌, ℕ, All, Contains, take}
use Rattle.saturation.proofs.parents.makers_of.Given as goal

abbrev pub invariant-loop-i : goal.invariant-loop-i
invariant-loop-i l = ((j : ℕ) → Contains (take l.i l.kinds) j → j < l.count → Contains l.makers.items j) × All (λ j. j < l.count) l.makers.items
