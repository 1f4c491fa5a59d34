use Rattle.std.proofs.Common.{◌≡◌, take}
use Rattle.std.specs.List.{flat_map}
use Rattle.guard_simplify.specs.Forests.{spawns_by}
use Rattle.guard_simplify.proofs.spawns.all_spawns.Given as goal

abbrev pub invariant-forests : goal.invariant-forests
invariant-forests l = l.spawns.items ≡ flat_map (spawns_by l.numbers l.guards) (take l.forest-index l.forests)
