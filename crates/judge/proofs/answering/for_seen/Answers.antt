use Rattle.std.proofs.Common.{sym, ap, ◌∙◌}
use Rattle.std.specs.Option.{option_copied}
use Rattle.tp_base.proofs.ClassLemmas.{Contains-has_class}
use Rattle.judge.specs.Grounds.{IsSaidOn}
use Rattle.judge.proofs.MemoLemmas.{right_found, said_copied}
use Rattle.judge.proofs.ShownLemmas.{said_seen}
use Rattle.judge.proofs.answering.for_seen.Goals as goal

pub returns-in-Some-clause-answer : goal.returns-in-Some-clause-answer
returns-in-Some-clause-answer g c =
    let Right = IsSaidOn c.args.ground.now in
    said_copied Right c.copy_answer.result c.args.atom c.in-Some.answer.now c.copy_answer.ensures
    (right_found Right c.args.memo.now c.args.atom c.in-Some.answer.now c.requires.right (sym (ap option_copied c.in-Some.is) ∙ c.of.ensures))

pub proved-requires-clause-has : goal.proved-requires-clause-has
proved-requires-clause-has g c = Contains-has_class c.args.atom c.args.ground.now.closed.now.labels.label c.requires.has

pub returns-in-None-clause-answer : goal.returns-in-None-clause-answer
returns-in-None-clause-answer g c =
    said_seen c.args.ground.now.system.now c.args.ground.now.page.now c.args.ground.now.limits.now c.args.ground.now.closed.now.labels.label c.args.atom c.proved.result
    c.requires.has c.proved.ensures.answer
