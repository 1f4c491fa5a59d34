use Rattle.std.proofs.Common.{◌≡◌, ◌-◌, ◌<◌, ℕ, length, slice_get, Some, IfSome}
use Rattle.simple_core.specs.declared.rules.Kind.{Kind}
use Rattle.test_building.proofs.soundness.are_above.Given as goal

abbrev pub invariant-kinds : goal.invariant-kinds
invariant-kinds l = (j : ℕ) (k : Kind) → j < l.i → slice_get l.kinds j ≡ Some k → IfSome k.above (λ m. m < j)

abbrev pub decreases-kinds : goal.decreases-kinds
decreases-kinds l = length l.kinds - l.i
