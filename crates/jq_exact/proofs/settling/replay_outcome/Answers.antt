use Rattle.std.proofs.Common.{Err, ap, subst}
use Rattle.tree_sem.specs.Series.{IsIllegalAt, IsFullAt}
use Rattle.tree_sem.specs.Trees.{LabelTree}
use Rattle.jq_stmts.specs.SharpViews.{exacts_of}
use Rattle.jq_exact.specs.Exact.{IsLegalExactly, after_exact_step}
use Rattle.jq_exact.proofs.RoomLemmas.{never_full}
use Rattle.jq_exact.proofs.SettlingLemmas.{broken_at}
use Rattle.jq_exact.proofs.settling.replay_outcome.Goals as goal

pub returns-in-Err-IllegalStep : goal.returns-in-Err-IllegalStep
returns-in-Err-IllegalStep c =
    let i = c.in-Err-IllegalStep.step in
    let at = c.in-Err-IllegalStep.ensures.illegal_step i (ap Err c.in-Err-IllegalStep.field-0-is) in
    broken_at c.args.page.now (exacts_of c.args.stmts.now) c.args.steps.now i
    (subst (λ (t : LabelTree). IsIllegalAt IsLegalExactly after_exact_step t (exacts_of c.args.stmts.now) c.args.steps.now i) c.in_ok-tree.ensures at)

pub unreachable-requires : goal.unreachable-requires
unreachable-requires c =
    let i = c.in-Err-TooManyNodes.field-0-0 in
    let at = c.in-Err-TooManyNodes.ensures.too_many_nodes i (ap Err c.in-Err-TooManyNodes.field-0-is) in
    never_full c.args.page.now (exacts_of c.args.stmts.now) c.args.steps.now i c.requires.room c.requires.few
    (subst (λ (t : LabelTree). IsFullAt IsLegalExactly after_exact_step t (exacts_of c.args.stmts.now) c.args.steps.now i) c.in_ok-tree.ensures at)
