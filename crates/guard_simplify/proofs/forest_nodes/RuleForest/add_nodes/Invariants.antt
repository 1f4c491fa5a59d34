use Rattle.std.proofs.Common.{◌≡◌, map, fold, take}
use Rattle.guard_simplify.specs.Firsts.{with_new}
use Rattle.guard_simplify.specs.Auxiliaries.{same_place}
use Rattle.guard_simplify.specs.ForestRules.{placed}
use Rattle.guard_simplify.proofs.forest_nodes.RuleForest.add_nodes.Given as goal

abbrev pub invariant-paths : goal.invariant-paths
invariant-paths l = map placed l.nodes.keys ≡ fold (with_new same_place) (map placed l.fn.nodes.keys) (map (λ q. (l.self.rule, q)) (take l.at-index l.paths))
