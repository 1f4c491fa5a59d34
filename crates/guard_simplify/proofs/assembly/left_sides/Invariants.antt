use Rattle.std.proofs.Common.{◌≡◌, map, take}
use Rattle.guard_simplify.proofs.assembly.left_sides.Given as goal

abbrev pub invariant-links : goal.invariant-links
invariant-links l = l.atoms.items ≡ map (λ x. x.from) (take l.link-index l.links)
