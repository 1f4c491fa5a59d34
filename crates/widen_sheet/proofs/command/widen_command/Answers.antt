use Rattle.widen_sheet.proofs.StopLemmas.{no_reason}
use Rattle.widen_sheet.proofs.command.widen_command.Goals as goal

pub returns-in-Ok-clause-says_why : goal.returns-in-Ok-clause-says_why
returns-in-Ok-clause-says_why g c = no_reason _ _ _ _ _ _ _ _ c.in-Ok.ensures
