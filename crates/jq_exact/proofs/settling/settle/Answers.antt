use Rattle.std.proofs.Common.{arith}
use Rattle.std.proofs.lemmas.Grind.{common_steps}
use Rattle.std.specs.Vec.Iter.{into_iter_items}
use Rattle.jq_stmts.specs.SharpViews.{exacts_of}
use Rattle.jq_exact.proofs.SettlingLemmas.{none_settled, next_unfolded, one_settled, all_settled}
use Rattle.jq_exact.proofs.settling.settle.Goals as goal

pub answers-init : goal.answers-init
answers-init c =
    rw c.new-settled.ensures.items (none_settled c.args.page.now (exacts_of c.args.stmts.now) c.args.system.now c.args.answers.items (into_iter_items c.into_iter-left.result) c.into_iter-left.ensures.rest c.requires.unfolded)

pub outcome_of-requires-clause-unfolded : goal.outcome_of-requires-clause-unfolded
outcome_of-requires-clause-unfolded c =
    next_unfolded c.args.page.now (exacts_of c.args.stmts.now) c.args.system.now c.args.answers.items (into_iter_items c.answers.left) c.answers.settled.items (into_iter_items c.next.new.self) c.in-Some.answer c.answers.invariant c.in-Some.ensures.cases.0

pub answers-preserved : goal.answers-preserved
answers-preserved c =
    one_settled c.args.page.now (exacts_of c.args.stmts.now) c.args.system.now c.args.answers.items (into_iter_items c.answers.left) c.answers.settled.items (into_iter_items c.next.new.self) c.in-Some.answer c.answers.invariant c.in-Some.ensures.cases.0
    c.push.new.self.items c.settled_answer.result c.in_ok-outcome.outcome c.in_ok-push.ensures.items c.settled_answer.ensures c.in_ok-outcome.ensures

pub returns : goal.returns
returns c =
    all_settled c.args.page.now (exacts_of c.args.stmts.now) c.args.system.now c.args.answers.items (into_iter_items c.answers.left) c.answers.settled.items c.answers.invariant (grind (arith, common_steps))
