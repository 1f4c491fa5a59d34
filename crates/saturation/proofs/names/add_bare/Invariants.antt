use Rattle.std.proofs.Common.{◌≡◌, length}
use Rattle.tp_base.specs.Classes.{union_of}
use Rattle.saturation.specs.Starting.{bare_gives}
use Rattle.saturation.proofs.names.add_bare.Given as goal

abbrev pub invariant-rules : goal.invariant-rules
invariant-rules l = union_of l.atoms (bare_gives l.rest) ≡ union_of l.initial.atoms (bare_gives l.rules)

abbrev pub decreases-rules : goal.decreases-rules
decreases-rules l = length l.rest
