use Rattle.std.proofs.Common.{◌≡◌, ◌++◌, length}
use Rattle.css_read.specs.Pruned.{list_cuts}
use Rattle.css_prune.specs.Flags.{flagged, staying}
use Rattle.css_prune.proofs.lists.push_list.Given as goal

abbrev pub invariant-items : goal.invariant-items
invariant-items l = record {
  count : length l.flags ≡ length l.rest;
  left : l.left ≡ staying l.flags;
  cuts : l.ranges.items ++ list_cuts (flagged l.rest l.flags) ≡ l.fn.ranges.items ++ list_cuts (flagged l.items l.unused);
}

abbrev pub decreases-items : goal.decreases-items
decreases-items l = length l.rest
