use Rattle.std.proofs.Common.{◌≡◌, ◌≤◌, ◌+◌, length}
use Rattle.css_prune.specs.Flags.{staying}
use Rattle.css_prune.proofs.lists.count_staying.Given as goal

abbrev pub invariant-flags : goal.invariant-flags
invariant-flags l = record {
  within : l.count + length l.rest ≤ length l.unused;
  counts : l.count + staying l.rest ≡ staying l.unused;
}

abbrev pub decreases-flags : goal.decreases-flags
decreases-flags l = length l.rest
