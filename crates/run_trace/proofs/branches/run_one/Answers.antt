use Rattle.std.proofs.Common.{ℕ, List, Result, Err, sym, ap, ◌∙◌, subst}
use Rattle.jq_stmts.specs.Views.{statements_of}
use Rattle.run_trace.specs.declared.replays.RunFault.{RunFault}
use Rattle.run_trace.specs.declared.traces.TheConstants.{MOST_RUN_NODES}
use Rattle.run_trace.specs.Known.{IsDone, IsStopped}
use Rattle.run_trace.specs.Replays.{IsStep}
use Rattle.run_trace.proofs.KnownLemmas.{done_more, stopped_more}
use Rattle.run_trace.proofs.branches.run_one.Goals as goal

pub returns-in-Ok : goal.returns-in-Ok
returns-in-Ok c =
    let page = c.args.task.now.page.now in
    let stmts = statements_of c.args.task.now.stmts.now in
    let branch = c.args.branch.now in
    subst (λ (z : List ℕ). IsDone page stmts z c.take_run.new.tree) (sym c.in_ok-push.ensures.items)
    (done_more page stmts branch.runs.items c.args.run branch.tree c.take_run.new.tree c.requires.done c.in-Ok.ensures.0 c.in-Ok.ensures.1)

pub returns-in-Err-OverLimit : goal.returns-in-Err-OverLimit
returns-in-Err-OverLimit c =
    let page = c.args.task.now.page.now in
    let stmts = statements_of c.args.task.now.stmts.now in
    let branch = c.args.branch.now in
    let over = subst (λ (r : Result (Unit {0}) RunFault). IsStep branch.tree stmts MOST_RUN_NODES c.args.run c.len-number.result c.take_run.new.tree r) (c.in-Err-OverLimit.is ∙ ap Err c.in-Err-OverLimit.field-0-is) c.take_run.ensures in
    subst (IsStopped page stmts) (sym c.in_ok-push.ensures.items) (stopped_more page stmts branch.runs.items c.args.run branch.tree over.2.0 c.requires.done over.2.1 over.2.2)
