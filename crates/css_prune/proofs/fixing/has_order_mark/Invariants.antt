use Rattle.std.proofs.Common.{◌≡◌, length}
use Rattle.css_read.specs.Pruned as spec
use Rattle.css_prune.proofs.fixing.has_order_mark.Given as goal

abbrev pub invariant-places : goal.invariant-places
invariant-places l = spec.has_order_mark l.rest ≡ spec.has_order_mark l.text

abbrev pub decreases-places : goal.decreases-places
decreases-places l = length l.rest
