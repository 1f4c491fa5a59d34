use Rattle.std.proofs.Common.{◌≡◌, ◌++◌, map, take}
use Rattle.guard_simplify.specs.Forests.{kind_by}
use Rattle.guard_simplify.proofs.forest_nodes.RuleForest.add_kinds.Given as goal

abbrev pub invariant-paths : goal.invariant-paths
invariant-paths l = l.kinds.items ≡ l.fn.kinds.items ++ map (kind_by l.numbers l.self) (take l.at-index l.self.paths.items)
