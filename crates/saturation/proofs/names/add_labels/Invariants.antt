use Rattle.std.proofs.Common.{◌≡◌, length}
use Rattle.std.specs.List.{flat_map}
use Rattle.tp_base.specs.Classes.{union_of}
use Rattle.simple_core.specs.declared.rules.Kind.{Kind}
use Rattle.saturation.proofs.names.add_labels.Given as goal

abbrev pub invariant-kinds : goal.invariant-kinds
invariant-kinds l = union_of l.atoms (flat_map (λ (k : Kind). k.label) l.rest) ≡ union_of l.initial.atoms (flat_map (λ (k : Kind). k.label) l.kinds)

abbrev pub decreases-kinds : goal.decreases-kinds
decreases-kinds l = length l.rest
