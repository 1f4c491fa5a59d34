-- A table that knows nothing.
use Rattle.std.proofs.Common.{◌≡◌, List, [], Contains, Some, sym, subst}
use Rattle.tp_base.proofs.Rising.{Contains-none}
use Rattle.simple_core.specs.declared.system.System.{System}
use Rattle.simple_core.specs.Pairs.{Pair, AreDifferent}
use Rattle.simple_core.specs.Knowledge.{KeepsAsking, IsToldBy}

pub keeps_none : (s : System) (known : List Pair) → known ≡ [] → KeepsAsking s (Contains known)
keeps_none s known none q r k there asks = absurd (Contains-none q (subst (λ (z : List Pair). Contains z q) none there))

pub told_none : (known : List Pair) → known ≡ [] → IsToldBy (Some known) (Contains known)
told_none known none = record { different = subst AreDifferent (sym none) tt; each = λ q. (λ h. h, λ h. h) }
