use Rattle.std.proofs.Common.{◌≡◌, filter, take}
use Rattle.std.specs.Prelude.{nat_lt}
use Rattle.guard_simplify.specs.ForestRules.{child_count}
use Rattle.guard_simplify.proofs.forest_nodes.RuleForest.with_children.Given as goal

abbrev pub invariant-paths : goal.invariant-paths
invariant-paths l = l.found.items ≡ filter (λ q. nat_lt 0 (child_count l.self.tree q)) (take l.at-index l.self.paths.items)
