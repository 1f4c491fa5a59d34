use Rattle.std.proofs.Common.{◌≡◌, length, map}
use Rattle.tp_base.specs.Classes.{union_of}
use Rattle.simple_core.specs.declared.rules.Spawn.{Spawn}
use Rattle.saturation.proofs.reads.add_makers.Given as goal

abbrev pub invariant-spawns : goal.invariant-spawns
invariant-spawns l = union_of l.atoms (map (λ (c : Spawn). c.needs) l.rest) ≡ union_of l.initial.atoms (map (λ (c : Spawn). c.needs) l.spawns)

abbrev pub decreases-spawns : goal.decreases-spawns
decreases-spawns l = length l.rest
