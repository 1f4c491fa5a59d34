use Rattle.std.proofs.Common.{map, Ok, sym, ap, ◌∙◌}
use Rattle.std.proofs.lemmas.Result.{err_from_is_err_and}
use Rattle.usage_report.specs.Answers.{spent}
use Rattle.usage_report.specs.Views.{answer_of}
use Rattle.dead_script.specs.Asked.{by_number}
use Rattle.treeped_app.specs.Views.{inputs_of, said_of, texts_of}
use Rattle.treeped_app.proofs.SaidMeanings.{said_means}
use Rattle.treeped_app.proofs.SayingLemmas.{tracked_of, not_read, not_answered, said_right, unfolded_of}
use Rattle.jq_exact.proofs.MarkLemmas.{wides_marked}
use Rattle.treeped_app.proofs.saying.say.Goals as goal

pub returns-clause-means : goal.returns-clause-means
returns-clause-means c =
    let old = c.in_ok-inputs.inputs in
    let both = c.in_ok-answered.answered.both in
    let others = by_number spent (map answer_of both.extra) c.in_ok-answered.answered.numbers.items in
    let said = c.in_ok-said.said in
    said_means c.args.request.now.mode c.args.request.now.limits.now c.args.number (said_of (texts_of c.args.texts.now) (record said { traces = c.in_ok-traces.traces }))
    (record {
      read = c.in_ok-inputs.ensures.read ∙ ap Ok (sym c.in_ok-said.ensures.inputs);
      answers =
          rw (c.in_ok-said.ensures.by_guard, c.in_ok-said.ensures.numbers)
          (said_right c.args.request.now.mode c.args.request.now.limits.now (inputs_of old) (inputs_of said.inputs) (map answer_of both.items) (map answer_of said.items.items) others both.system c.in_ok-said.ensures.inputs
          (wides_marked old.script.stmts.items old.script.sharp.items) c.in_ok-answered.ensures.answers c.in_ok-answered.ensures.system c.in_ok-said.ensures.settled);
      traces = rw c.deref.ensures.value at c.in_ok-traces.ensures;
    })

pub returns-in_err-inputs-clause-said : goal.returns-in_err-inputs-clause-said
returns-in_err-inputs-clause-said c =
    let exit = err_from_is_err_and c.from_residual.result c.from_residual.ensures.1 in
    rw (exit.1, exit.2) (not_read c.args.request.now.mode c.args.request.now.limits.now c.args.number (texts_of c.args.texts.now) _ c.in_err-inputs.ensures.read)

pub returns-in_err-answered-clause-said : goal.returns-in_err-answered-clause-said
returns-in_err-answered-clause-said c =
    let exit = err_from_is_err_and c.from_residual-in_err-answered.result c.from_residual-in_err-answered.ensures.1 in
    rw (exit.1, exit.2) (not_answered c.args.request.now.mode c.args.request.now.limits.now c.args.number (texts_of c.args.texts.now) (inputs_of c.in_ok-inputs.inputs) _ c.in_ok-inputs.ensures.read c.in_err-answered.ensures.stop)

pub said_by-requires-clause-unfolded : goal.said_by-requires-clause-unfolded
said_by-requires-clause-unfolded c =
    let i = inputs_of c.in_ok-inputs.inputs in
    rw c.in_ok-answered.ensures.system (unfolded_of c.args.request.now.mode c.args.request.now.limits.now i c.in_ok-answered.answered.both.items (by_number spent (map answer_of c.in_ok-answered.answered.both.extra) c.in_ok-answered.answered.numbers.items) c.args.request.now.in_range c.in_ok-answered.ensures.answers)

pub traces_of-requires : goal.traces_of-requires
traces_of-requires c =
    let old = c.in_ok-inputs.inputs in
    let both = c.in_ok-answered.answered.both in
    let others = by_number spent (map answer_of both.extra) c.in_ok-answered.answered.numbers.items in
    let said = c.in_ok-said.said in
    record {
      tracked =
          rw c.deref.ensures.value
          (tracked_of c.args.request.now.mode c.args.request.now.limits.now (inputs_of said.inputs) (map answer_of said.items.items) others
          (said_right c.args.request.now.mode c.args.request.now.limits.now (inputs_of old) (inputs_of said.inputs) (map answer_of both.items) (map answer_of said.items.items) others both.system c.in_ok-said.ensures.inputs
          (wides_marked old.script.stmts.items old.script.sharp.items) c.in_ok-answered.ensures.answers c.in_ok-answered.ensures.system c.in_ok-said.ensures.settled));
    }

pub returns-clause-said : goal.returns-clause-said
returns-clause-said c =
    let old = c.in_ok-inputs.inputs in
    let both = c.in_ok-answered.answered.both in
    let others = by_number spent (map answer_of both.extra) c.in_ok-answered.answered.numbers.items in
    let said = c.in_ok-said.said in
    record {
      read = c.in_ok-inputs.ensures.read ∙ ap Ok (sym c.in_ok-said.ensures.inputs);
      answers =
          rw (c.in_ok-said.ensures.by_guard, c.in_ok-said.ensures.numbers)
          (said_right c.args.request.now.mode c.args.request.now.limits.now (inputs_of old) (inputs_of said.inputs) (map answer_of both.items) (map answer_of said.items.items) others both.system c.in_ok-said.ensures.inputs
          (wides_marked old.script.stmts.items old.script.sharp.items) c.in_ok-answered.ensures.answers c.in_ok-answered.ensures.system c.in_ok-said.ensures.settled);
      traces = rw c.deref.ensures.value at c.in_ok-traces.ensures;
    }

pub returns-clause-in_order : goal.returns-clause-in_order
returns-clause-in_order c = rw (c.in_ok-said.ensures.by_guard, c.in_ok-said.ensures.numbers) c.in_ok-answered.ensures.in_order
