use Rattle.saturation.proofs.AskLemmas.{keeps_asking}
use Rattle.saturation.proofs.shared.SharedSummariesSummaries.gain.Goals as goal

pub returns-clause-closed : goal.returns-clause-closed
returns-clause-closed c = rw (← c.self.view_is) (keeps_asking c.self.inside.system c.self.invariant.sound)

pub returns-in_err-label-clause-closed : goal.returns-in_err-label-clause-closed
returns-in_err-label-clause-closed c = rw (← c.self.view_is) (keeps_asking c.self.inside.system c.self.invariant.sound)
