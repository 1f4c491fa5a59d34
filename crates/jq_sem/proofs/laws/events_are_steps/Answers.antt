use Rattle.jq_sem.proofs.EventLemmas.{steps_of}
use Rattle.jq_sem.proofs.laws.events_are_steps.Goals as goal

pub returns : goal.returns
returns c = steps_of c.args.events.now c.requires.no_losses
