-- References as numbers: the two leaves, and behind them the branches.
use Rattle.std.specs.Prelude.{◌≡◌, ℕ, ◌+◌, true, false, refl}
use Rattle.std.proofs.Common.{zero, suc, arith}
use Rattle.class_diagrams.specs.declared.refs.Target.{Target}
use Rattle.class_diagrams.specs.declared.refs.Target.TheVariants.{Leaf, Branch}

abbrev pub target_of : ℕ → Target
target_of zero = Leaf false
target_of (suc zero) = Leaf true
target_of (suc (suc k)) = Branch k

abbrev pub number_of : Target → ℕ
number_of (Leaf false) = 0
number_of (Leaf true) = 1
number_of (Branch k) = k + 2

pub number_of-target_of : (n : ℕ) → number_of (target_of n) ≡ n
number_of-target_of zero = refl
number_of-target_of (suc zero) = refl
number_of-target_of (suc (suc k)) = omega arith
