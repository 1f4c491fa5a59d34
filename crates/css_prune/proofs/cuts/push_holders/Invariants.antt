use Rattle.std.proofs.Common.{◌≡◌, ◌++◌, length}
use Rattle.css_read.specs.Pruned.{gone_ranges, wholes}
use Rattle.css_prune.proofs.cuts.push_holders.Given as goal

abbrev pub invariant-holders : goal.invariant-holders
invariant-holders l = l.ranges.items ++ gone_ranges (wholes l.rest) l.flags ≡ l.fn.ranges.items ++ gone_ranges (wholes l.holders) l.gone

abbrev pub decreases-holders : goal.decreases-holders
decreases-holders l = length l.rest
