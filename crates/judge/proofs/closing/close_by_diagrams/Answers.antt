use Rattle.saturation.proofs.AskLemmas.{keeps_asking}
use Rattle.judge.proofs.closing.close_by_diagrams.Goals as goal

pub close_page-requires-clause-lawful : goal.close_page-requires-clause-lawful
close_page-requires-clause-lawful c = rw c.requires.made (keeps_asking c.args.system.now c.requires.sound)
