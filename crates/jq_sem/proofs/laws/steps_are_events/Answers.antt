use Rattle.jq_stmts.specs.Views.{statements_of}
use Rattle.jq_sem.proofs.EventLemmas.{legal_as_events, end_of_steps, no_losses}
use Rattle.jq_sem.proofs.laws.steps_are_events.Goals as goal

pub returns-clause-no_losses : goal.returns-clause-no_losses
returns-clause-no_losses c = no_losses c.args.steps.now

pub returns-clause-legal : goal.returns-clause-legal
returns-clause-legal c = legal_as_events (statements_of c.args.stmts.now) c.args.steps.now c.args.page.now

pub returns-clause-end : goal.returns-clause-end
returns-clause-end c = end_of_steps (statements_of c.args.stmts.now) c.args.steps.now c.args.page.now
