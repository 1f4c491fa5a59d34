use Rattle.css_read.proofs.KeptLemmas.{sheets_kept}
use Rattle.css_read.proofs.laws.pruning_keeps_the_sheet.Goals as goal

pub returns : goal.returns
returns c = sheets_kept c.args.text.now
