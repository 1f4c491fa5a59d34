use Rattle.std.proofs.Common.{map}
use Rattle.css_read.specs.Views.{item_of}
use Rattle.jq_stmts.specs.Views.{statements_of}
use Rattle.sel_text.specs.Views.{selector_of}
use Rattle.usage_report.specs.Views.{answer_of}
use Rattle.run_trace.proofs.KnownLemmas.{shown_tracked}
use Rattle.run_trace.proofs.ReplayLemmas.{legal_numbers}
use Rattle.run_trace.proofs.together.run_shared.Goals as goal

pub run_up_to-requires-clause-numbers : goal.run_up_to-requires-clause-numbers
run_up_to-requires-clause-numbers c =
    let task = c.args.task.now in
    let steps = c.in-Some.first.steps.now in
    let shown = c.in-Some.ensures in
    let tracked = shown_tracked task.page.now (statements_of task.stmts.now) (map item_of task.items.now) (map answer_of task.answers.now) shown.0 (selector_of c.in-Some.first.selector.now) steps c.requires.tracked shown.1 in
    legal_numbers task.stmts.now steps task.page.now tracked.0
