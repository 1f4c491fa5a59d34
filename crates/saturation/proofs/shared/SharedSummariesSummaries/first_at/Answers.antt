use Rattle.saturation.proofs.AskLemmas.{keeps_asking}
use Rattle.saturation.proofs.shared.SharedSummariesSummaries.first_at.Goals as goal

pub returns-clause-closed : goal.returns-clause-closed
returns-clause-closed c = keeps_asking c.args.self.now.system c.first_told.ensures.sound
