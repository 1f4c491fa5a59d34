use Rattle.std.proofs.Common.{◌≡◌, length, map}
use Rattle.std.specs.List.{list_any}
use Rattle.css_read.specs.Views.{item_of}
use Rattle.css_prune.specs.Flags.{has_string}
use Rattle.css_prune.proofs.fixing.any_has_quote.Given as goal

abbrev pub invariant-items : goal.invariant-items
invariant-items l = list_any (has_string l.text) (map item_of l.rest) ≡ list_any (has_string l.text) (map item_of l.items)

abbrev pub decreases-items : goal.decreases-items
decreases-items l = length l.rest
