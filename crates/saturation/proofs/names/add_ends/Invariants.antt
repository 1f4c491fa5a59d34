use Rattle.std.proofs.Common.{◌≡◌, length, map}
use Rattle.tp_base.specs.Classes.{union_of}
use Rattle.simple_core.specs.declared.rules.Link.{Link}
use Rattle.saturation.proofs.names.add_ends.Given as goal

abbrev pub invariant-links : goal.invariant-links
invariant-links l = union_of l.atoms (map (λ (l : Link). l.to) l.rest) ≡ union_of l.initial.atoms (map (λ (l : Link). l.to) l.links)

abbrev pub decreases-links : goal.decreases-links
decreases-links l = length l.rest
