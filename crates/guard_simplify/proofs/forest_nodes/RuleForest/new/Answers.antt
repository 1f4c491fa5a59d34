use Rattle.std.proofs.Common.{ap, ◌∙◌}
use Rattle.tree_sem.specs.Trees.{LabelTree}
use Rattle.tree_sem.specs.Order.{paths_from}
use Rattle.guard_simplify.proofs.PlantedLemmas.{planted_is}
use Rattle.guard_simplify.proofs.forest_nodes.RuleForest.new.Goals as goal

pub returns : goal.returns
returns c =
    planted_is c.args.number c.args.rule.now c.in_ok-tree.tree c.in_ok-paths.paths.items c.is_beside.result c.in_ok-tree.ensures
    (c.in_ok-paths.ensures ∙ ap (λ (t : LabelTree). paths_from 0 t.below) c.in_ok-tree.ensures) c.is_beside.ensures
