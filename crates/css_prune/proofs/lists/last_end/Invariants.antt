use Rattle.std.proofs.Common.{◌≡◌, length, map}
use Rattle.css_read.specs.Views.{item_of}
use Rattle.css_prune.specs.Flags.{end_of}
use Rattle.css_prune.proofs.lists.last_end.Given as goal

abbrev pub invariant-items : goal.invariant-items
invariant-items l = end_of l.end (map item_of l.rest) ≡ end_of l.to (map item_of l.items)

abbrev pub decreases-items : goal.decreases-items
decreases-items l = length l.rest
