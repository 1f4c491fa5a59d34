use Rattle.std.proofs.Common.{◌≡◌, length, map}
use Rattle.tp_base.specs.Classes.{union_of}
use Rattle.simple_core.specs.declared.rules.Local.{Local}
use Rattle.saturation.proofs.names.add_gives.Given as goal

abbrev pub invariant-rules : goal.invariant-rules
invariant-rules l = union_of l.atoms (map (λ (r : Local). r.gives) l.rest) ≡ union_of l.initial.atoms (map (λ (r : Local). r.gives) l.rules)

abbrev pub decreases-rules : goal.decreases-rules
decreases-rules l = length l.rest
