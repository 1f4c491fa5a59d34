use Rattle.std.proofs.Common.{map, List, ℕ, sym, subst}
use Rattle.css_read.specs.Views.{item_of}
use Rattle.jq_stmts.specs.Views.{statements_of}
use Rattle.sel_text.specs.Views.{selector_of}
use Rattle.usage_report.specs.Views.{answer_of}
use Rattle.run_trace.specs.declared.traces.TheConstants.{MOST_RUN_NODES}
use Rattle.run_trace.specs.FirstMatches.{IsFirstMatch}
use Rattle.run_trace.specs.Replays.{CanRun}
use Rattle.run_trace.proofs.KnownLemmas.{shown_tracked}
use Rattle.run_trace.proofs.ReplayLemmas.{no_match}
use Rattle.run_trace.proofs.together.listed.Goals as goal

pub unreachable-requires : goal.unreachable-requires
unreachable-requires c =
    let task = c.args.task.now in
    let tree = c.args.branch.now.tree in
    let s = selector_of c.args.shown.now.selector.now in
    let steps = c.args.shown.now.steps.now in
    let stmts = statements_of task.stmts.now in
    let tracked = shown_tracked task.page.now stmts (map item_of task.items.now) (map answer_of task.answers.now) c.args.item s steps c.requires.tracked c.requires.shown in
    let can = subst (λ (z : List ℕ). CanRun task.page.now stmts MOST_RUN_NODES z tree) (sym c.requires.runs) c.requires.done in
    let none = subst (IsFirstMatch tree s) c.in_default.is c.in_ok-at.ensures in
    no_match stmts MOST_RUN_NODES task.page.now tree s steps tracked.1 tracked.0 tracked.2 can none
