use Rattle.std.proofs.Common.{length, sym}
use Rattle.std.proofs.lemmas.Bool.{ltb-true}
use Rattle.sel_text.specs.Views.{selector_of}
use Rattle.run_trace.proofs.KnownLemmas.{if_some, shown_there}
use Rattle.run_trace.proofs.shown.shown_at.Goals as goal

pub returns : goal.returns
returns c =
    let entry = c.in_ok-entry.ensures.lookup in
    let answer = c.in_ok-answer.ensures.lookup in
    if_some c.shown_by.result _ _
    (λ s is. shown_there c.args.task.now.items.now c.args.task.now.answers.now c.args.item c.in_ok-entry.entry.now c.in_ok-answer.answer.now (ltb-true c.args.item (length c.args.task.now.items.now) (sym entry.0)) entry.1 (ltb-true c.args.item (length c.args.task.now.answers.now) (sym answer.0)) answer.1 (selector_of s.selector.now) s.steps.now is) c.shown_by.ensures
