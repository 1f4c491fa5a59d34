use Rattle.std.proofs.Common.{◌≡◌, length}
use Rattle.guard_simplify.specs.Mixed.{tag_of, mixed}
use Rattle.guard_simplify.proofs.keys.Key.mixed.Given as goal

abbrev pub invariant-parts : goal.invariant-parts
invariant-parts l = mixed l.number l.rest ≡ mixed (tag_of l.self.shape) l.self.parts.items

abbrev pub decreases-parts : goal.decreases-parts
decreases-parts l = length l.rest
