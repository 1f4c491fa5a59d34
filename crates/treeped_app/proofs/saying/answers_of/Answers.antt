use Rattle.std.proofs.Common.{map, ap}
use Rattle.jq_stmts.specs.Views.{statements_of}
use Rattle.usage_report.specs.Views.{answer_of}
use Rattle.treeped_app.specs.Views.{inputs_of}
use Rattle.treeped_app.proofs.SayingLemmas.{answers_are, answers_in_order, system_as, given_with, refused_by_system}
use Rattle.treeped_app.proofs.saying.answers_of.Goals as goal

pub judge_more-requires-clause-given : goal.judge_more-requires-clause-given
judge_more-requires-clause-given c =
    let asked = c.in_ok-asked.asked in
    given_with c.args.request.now.mode (inputs_of c.args.inputs.now) (statements_of c.deref.result.now) asked.guards.items asked.numbers.items c.requires.given (ap statements_of c.deref.ensures.value) c.in_ok-asked.ensures

pub returns-in-Ok-clause-answers : goal.returns-in-Ok-clause-answers
returns-in-Ok-clause-answers c =
    let asked = c.in_ok-asked.asked in
    answers_are c.args.request.now.mode c.args.request.now.limits.now (inputs_of c.args.inputs.now) (statements_of c.deref.result.now) asked.guards.items asked.numbers.items (map answer_of c.in-Ok.both.items) (map answer_of c.in-Ok.both.extra)
    (ap statements_of c.deref.ensures.value) c.in_ok-asked.ensures c.in-Ok.ensures.within c.in-Ok.ensures.judged

pub returns-in-Ok-clause-in_order : goal.returns-in-Ok-clause-in_order
returns-in-Ok-clause-in_order c =
    let asked = c.in_ok-asked.asked in
    answers_in_order c.args.request.now.mode c.args.request.now.limits.now (inputs_of c.args.inputs.now) (statements_of c.deref.result.now) asked.guards.items asked.numbers.items (map answer_of c.in-Ok.both.items) c.in-Ok.both.extra
    c.in_ok-asked.ensures c.in-Ok.ensures.judged

pub returns-in-Ok-clause-system : goal.returns-in-Ok-clause-system
returns-in-Ok-clause-system c =
    let asked = c.in_ok-asked.asked in
    system_as c.args.request.now.mode (inputs_of c.args.inputs.now) (statements_of c.deref.result.now) asked.guards.items asked.numbers.items c.in-Ok.both.system (ap statements_of c.deref.ensures.value) c.in_ok-asked.ensures c.in-Ok.ensures.system

pub returns-in-Err-clause-stop : goal.returns-in-Err-clause-stop
returns-in-Err-clause-stop c =
    let asked = c.in_ok-asked.asked in
    rw c.judging_stop.ensures
    (refused_by_system c.args.request.now.mode (inputs_of c.args.inputs.now) (statements_of c.deref.result.now) asked.guards.items asked.numbers.items c.in-Err.fault (ap statements_of c.deref.ensures.value) c.in_ok-asked.ensures c.in-Err.ensures.fault)
