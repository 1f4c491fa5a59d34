use Rattle.std.proofs.Common.{◌≡◌, ◌≤◌, length, drop}
use Rattle.css_read.specs.Pruned as spec
use Rattle.css_prune.proofs.HoldingLemmas.{AreAll}
use Rattle.css_prune.proofs.holders.gone_holders.Given as goal

abbrev pub invariant-holders : goal.invariant-holders
invariant-holders l = record {
  within : l.number ≤ length l.list;
  states : length l.held.items ≡ length l.list;
  flags : length l.gone.items ≡ length l.list;
  gone : drop l.number l.gone.items ≡ spec.gone_holders l.holders.of_rule l.rules l.number (drop l.number l.list);
  held : AreAll l.holders.of_rule l.rules (drop l.number l.list) (drop l.number l.gone.items) l.held.items;
}

abbrev pub decreases-holders : goal.decreases-holders
decreases-holders l = l.number
