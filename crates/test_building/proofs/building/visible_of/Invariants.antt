use Rattle.std.proofs.Common.{◌≡◌, [], map, length}
use Rattle.tp_base.specs.Classes.{union_of}
use Rattle.test_building.proofs.building.visible_of.Given as goal

abbrev pub invariant-links : goal.invariant-links
invariant-links l = union_of l.visible (map (λ f. f.from) l.rest) ≡ union_of [] (map (λ f. f.from) l.links)

abbrev pub decreases-links : goal.decreases-links
decreases-links l = length l.rest
