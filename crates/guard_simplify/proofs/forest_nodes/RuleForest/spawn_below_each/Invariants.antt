use Rattle.std.proofs.Common.{◌≡◌, ◌++◌, take}
use Rattle.std.specs.List.{flat_map}
use Rattle.guard_simplify.specs.Forests.{spawned_below}
use Rattle.guard_simplify.proofs.forest_nodes.RuleForest.spawn_below_each.Given as goal

abbrev pub invariant-paths : goal.invariant-paths
invariant-paths l = l.spawns.items ≡ l.fn.spawns.items ++ flat_map (spawned_below l.numbers l.self) (take l.at-index l.self.paths.items)
