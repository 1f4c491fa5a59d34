use Rattle.std.proofs.Common.{true}
use Rattle.jq_stmts.specs.SharpViews.{exacts_of}
use Rattle.jq_sem.proofs.SetLemmas.{on_ok}
use Rattle.jq_exact.specs.Settling.{settled_by}
use Rattle.usage_report.specs.Answers.{used}
use Rattle.jq_exact.proofs.OrderedLemmas.{valid_ordered}
use Rattle.jq_exact.proofs.SettlingLemmas.{not_asked, asked}
use Rattle.jq_exact.proofs.settling.outcome_of.Goals as goal

pub has_sharp_step-requires : goal.has_sharp_step-requires
has_sharp_step-requires c =
    let unfolded = rw c.in-Used.is at c.requires.unfolded in
    valid_ordered c.args.system.now c.args.page.now c.in-Used.proof unfolded.0.0 unfolded.0.1

pub returns-then-not-branch : goal.returns-then-not-branch
returns-then-not-branch c =
    rw c.in-Used.is
    (not_asked c.args.page.now (exacts_of c.args.stmts.now) c.args.system.now c.in-Used.proof c.in-Used.steps c.in-Used.shown c.args.sharp.now c.in_ok-has_sharp_step-in-Used.field-0 c.requires.sharp c.in_ok-has_sharp_step-in-Used.ensures c.if-not-branch.true)

pub returns-else-not-branch : goal.returns-else-not-branch
returns-else-not-branch c =
    rw c.in-Used.is
    (on_ok c.shown_outcome.result _ _ (λ o replayed.
    asked c.args.page.now (exacts_of c.args.stmts.now) c.args.system.now c.in-Used.proof c.in-Used.steps c.in-Used.shown c.args.sharp.now c.in_ok-has_sharp_step-in-Used.field-0 (settled_by (used c.in-Used.proof c.in-Used.steps c.in-Used.shown) o)
    c.requires.sharp c.in_ok-has_sharp_step-in-Used.ensures c.if-not-branch.false (replayed c.in-Used.proof c.in-Used.steps)) c.shown_outcome.ensures)
