use Rattle.jq_stmts.specs.SharpViews.{exacts_of}
use Rattle.tree_sem.proofs.ReplayLemmas.{illegal_refused, full_refused}
use Rattle.jq_exact.specs.Exact.{IsLegalExactly, after_exact_step}
use Rattle.jq_exact.proofs.ReplayLemmas.{are_legal, ends, left}
use Rattle.jq_exact.proofs.replays.replay_exact.Goals as goal

pub returns-clause-legal : goal.returns-clause-legal
returns-clause-legal c = are_legal (exacts_of c.args.stmts.now) c.args.tree.now c.args.steps.now c.take_steps.new.tree c.take_steps.result c.take_steps.ensures

pub returns-clause-ok : goal.returns-clause-ok
returns-clause-ok c = ends (exacts_of c.args.stmts.now) c.args.tree.now c.args.steps.now c.take_steps.new.tree c.take_steps.result c.take_steps.ensures

pub returns-clause-illegal_refused : goal.returns-clause-illegal_refused
returns-clause-illegal_refused c i is = illegal_refused IsLegalExactly after_exact_step (exacts_of c.args.stmts.now) c.args.tree.now c.args.steps.now c.take_steps.new.tree c.take_steps.result i c.take_steps.ensures is

pub returns-clause-full_refused : goal.returns-clause-full_refused
returns-clause-full_refused c i is = full_refused IsLegalExactly after_exact_step (exacts_of c.args.stmts.now) c.args.tree.now c.args.steps.now c.take_steps.new.tree c.take_steps.result i c.take_steps.ensures is

pub returns-clause-err : goal.returns-clause-err
returns-clause-err c = left (exacts_of c.args.stmts.now) c.args.tree.now c.args.steps.now c.take_steps.new.tree c.take_steps.result c.take_steps.ensures
