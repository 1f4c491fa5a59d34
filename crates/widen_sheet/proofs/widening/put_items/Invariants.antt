use Rattle.std.proofs.Common.{◌≡◌, ◌++◌, length, map}
use Rattle.css_read.specs.Views.{item_of}
use Rattle.widen_sheet.specs.Wide as spec
use Rattle.widen_sheet.proofs.widening.put_items.Given as goal

abbrev pub invariant-items : goal.invariant-items
invariant-items l = record { put : l.out.items ++ spec.widened_from l.text l.at (map item_of l.rest) ≡ l.fn.out.items ++ spec.widened_from l.text 0 (map item_of l.items) }

abbrev pub decreases-items : goal.decreases-items
decreases-items l = length l.rest
