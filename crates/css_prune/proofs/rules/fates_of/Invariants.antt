use Rattle.std.proofs.Common.{length, map}
use Rattle.css_read.specs.Pruned.{gone_rules, lists_cuts}
use Rattle.css_read.specs.Views.{item_of}
use Rattle.css_prune.specs.Flags.{flagged}
use Rattle.css_prune.proofs.GroupLemmas.{AreFates}
use Rattle.css_prune.proofs.rules.fates_of.Given as goal

abbrev pub invariant-rules : goal.invariant-rules
invariant-rules l =
    let fs = flagged l.sheet.items l.unused in
    AreFates l.text (gone_rules l.text 0 l.sheet.rules fs) (lists_cuts l.text 0 l.sheet.rules fs) l.rules (map item_of l.items) l.flags l.fates.gone.items l.fates.cuts.items

abbrev pub decreases-rules : goal.decreases-rules
decreases-rules l = length l.rules
