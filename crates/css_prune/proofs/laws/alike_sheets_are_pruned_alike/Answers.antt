use Rattle.css_prune.proofs.AlikeLemmas.{readings_pruned_alike}
use Rattle.css_prune.proofs.laws.alike_sheets_are_pruned_alike.Goals as goal

pub returns : goal.returns
returns c = readings_pruned_alike c.args.text.now
