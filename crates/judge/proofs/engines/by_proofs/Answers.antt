use Rattle.std.proofs.Common.{ℕ, List, map, IfOk, subst}
use Rattle.usage_report.specs.Views.{answer_of}
use Rattle.judge.specs.BySeen.{AreSaid}
use Rattle.judge.proofs.engines.by_proofs.Goals as goal

pub all_answers-requires : goal.all_answers-requires
all_answers-requires g c = record {
  ready = record {
    made = c.requires.made;
    asked = c.requires.known;
    sound = c.requires.answerable.sound;
    rules = c.in_ok-rules.ensures;
    closed = c.requires.closed;
    forests = c.requires.answerable.forests;
    list = c.requires.answerable.list;
  };
}

pub returns : goal.returns
returns g c =
    subst (λ (z : List ℕ). IfOk c.all_answers.result (λ v. AreSaid c.args.question.now.made.now.system c.args.question.now.page.now c.args.question.now.limits.now c.args.closed.now.labels.label z (map answer_of v.items)))
    c.items.ensures c.all_answers.ensures
