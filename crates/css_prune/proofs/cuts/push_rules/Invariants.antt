use Rattle.std.proofs.Common.{◌≡◌, ◌++◌, length}
use Rattle.css_read.specs.Pruned.{gone_ranges}
use Rattle.css_prune.proofs.cuts.push_rules.Given as goal

abbrev pub invariant-rules : goal.invariant-rules
invariant-rules l = l.ranges.items ++ gone_ranges l.rest l.flags ≡ l.fn.ranges.items ++ gone_ranges l.rules l.gone

abbrev pub decreases-rules : goal.decreases-rules
decreases-rules l = length l.rest
