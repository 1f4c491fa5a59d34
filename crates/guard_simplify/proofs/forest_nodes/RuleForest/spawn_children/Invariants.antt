use Rattle.std.proofs.Common.{◌≡◌, ◌++◌}
use Rattle.guard_simplify.specs.ForestRules.{children_spawned}
use Rattle.guard_simplify.specs.Forests.{nodes_in}
use Rattle.guard_simplify.proofs.forest_nodes.RuleForest.spawn_children.Given as goal

abbrev pub invariant-children : goal.invariant-children
invariant-children l = l.spawns.items ≡ l.fn.spawns.items ++ children_spawned (nodes_in l.numbers) l.self.rule l.needs l.at l.child
