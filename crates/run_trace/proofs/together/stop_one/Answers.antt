use Rattle.std.proofs.Common.{length, map, refl}
use Rattle.css_read.specs.Views.{item_of}
use Rattle.jq_stmts.specs.Views.{statements_of}
use Rattle.sel_text.specs.Views.{selector_of}
use Rattle.usage_report.specs.Views.{answer_of}
use Rattle.usage_report.specs.declared.run_traces.RunTrace.TheVariants.{Stopped}
use Rattle.run_trace.proofs.KnownLemmas.{noted, stops}
use Rattle.run_trace.proofs.together.stop_one.Goals as goal

pub returns-then-begins_with : goal.returns-then-begins_with
returns-then-begins_with c =
    let page = c.args.task.now.page.now in
    let stmts = statements_of c.args.task.now.stmts.now in
    let items = map item_of c.args.task.now.items.now in
    let answers = map answer_of c.args.task.now.answers.now in
    let s = selector_of c.in-Some-shown_at.shown.selector.now in
    let steps = c.in-Some-shown_at.shown.steps.now in
    let begins = c.begins_with.ensures c.if-begins_with.true in
    let stop = stops page stmts s steps c.as_slice-runs.result.now begins.0 (length c.as_slice-runs.result.now) refl begins.1 (rw c.as_slice-runs.ensures.value c.requires.stopped) in
    record { known = noted page stmts items answers c.args.known.now.items c.note.new.known.items c.in-Some.item.now (Stopped (length c.as_slice-runs.result.now)) c.requires.known (s, steps, c.in-Some-shown_at.ensures, stop) c.note.ensures }
