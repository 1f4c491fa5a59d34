use Rattle.std.proofs.Common.{◌≡◌, take}
use Rattle.std.specs.List.{flat_map}
use Rattle.saturation.specs.Courses.{first_by}
use Rattle.saturation.proofs.courses.firsts_under.Given as goal

abbrev pub invariant-loop-i : goal.invariant-loop-i
invariant-loop-i g l = l.firsts.items ≡ flat_map (first_by l.d.branches (g.L.AtomSet.atoms l.parent)) (take l.i l.courses)
