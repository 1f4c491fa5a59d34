use Rattle.std.proofs.Common.{◌≡◌, length}
use Rattle.css_prune.specs.Flags.{has_early_rule}
use Rattle.css_prune.proofs.fixing.has_early_rule.Given as goal

abbrev pub invariant-places : goal.invariant-places
invariant-places l = has_early_rule l.rest ≡ has_early_rule l.text

abbrev pub decreases-places : goal.decreases-places
decreases-places l = length l.rest
