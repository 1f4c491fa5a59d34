use Rattle.css_read.specs.Views.{sheet_of}
use Rattle.css_prune.proofs.ReadingLemmas.{stand_by_rules}
use Rattle.css_prune.proofs.pruning.prune.Goals as goal

pub cuts-requires-clause-in_order : goal.cuts-requires-clause-in_order
cuts-requires-clause-in_order c = stand_by_rules c.args.text.now c.requires.read.0 c.requires.read.1 (sheet_of c.args.sheet.now) c.requires.read.2
