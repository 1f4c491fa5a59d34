use Rattle.std.proofs.Common.{map, subst}
use Rattle.tree_sem.specs.Trees.{LabelTree}
use Rattle.node_marks.specs.Numbering.{IsNumbering}
use Rattle.summary_tests.proofs.folds.fold.Goals as goal

pub folded-requires : goal.folded-requires
folded-requires c =
    let columns = c.into_columns-columns.result in
    subst (λ (t : LabelTree). IsNumbering t columns.parents.items columns.steps.items (map (λ b. b.now) columns.labels.items)) c.in_ok-new.ensures c.into_columns-columns.ensures
