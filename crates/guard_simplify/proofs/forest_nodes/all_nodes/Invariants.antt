use Rattle.std.proofs.Common.{◌≡◌, length, map, fold}
use Rattle.std.specs.List.{flat_map}
use Rattle.guard_simplify.specs.Firsts.{with_new, different}
use Rattle.guard_simplify.specs.Auxiliaries.{same_place}
use Rattle.guard_simplify.specs.ForestRules.{placed}
use Rattle.guard_simplify.specs.Forests.{places_of}
use Rattle.guard_simplify.proofs.forest_nodes.all_nodes.Given as goal

abbrev pub invariant-forests : goal.invariant-forests
invariant-forests l = fold (with_new same_place) (map placed l.nodes.keys) (flat_map places_of l.rest) ≡ different same_place (flat_map places_of l.forests)

abbrev pub decreases-forests : goal.decreases-forests
decreases-forests l = length l.rest
