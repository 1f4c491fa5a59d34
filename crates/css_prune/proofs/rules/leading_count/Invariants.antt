use Rattle.std.proofs.Common.{◌≡◌, ◌+◌, length, map}
use Rattle.css_read.specs.Views.{item_of}
use Rattle.css_prune.specs.Groups.{leading}
use Rattle.css_prune.proofs.rules.leading_count.Given as goal

abbrev pub invariant-items : goal.invariant-items
invariant-items l = record {
  within : l.count + length l.rest ≡ length l.items;
  counts : l.count + leading l.rule (map item_of l.rest) ≡ leading l.rule (map item_of l.items);
}

abbrev pub decreases-items : goal.decreases-items
decreases-items l = length l.rest
