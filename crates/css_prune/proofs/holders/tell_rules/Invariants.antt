use Rattle.std.proofs.Common.{◌≡◌, ℕ, ◌<◌, length, get_or}
use Rattle.css_read.specs.Pruned.{held_by}
use Rattle.css_prune.specs.declared.holders.Held.TheVariants.{Nothing}
use Rattle.css_prune.specs.Holding.{and_all}
use Rattle.css_prune.proofs.holders.tell_rules.Given as goal

abbrev pub invariant-rules : goal.invariant-rules
invariant-rules l = record {
  count : length l.held.items ≡ length l.fn.held.items;
  each : (n : ℕ) → n < length l.fn.held.items → and_all (get_or l.held.items n Nothing) (held_by n l.rest l.flags) ≡ and_all (get_or l.fn.held.items n Nothing) (held_by n l.owners l.gone);
}

abbrev pub decreases-rules : goal.decreases-rules
decreases-rules l = length l.rest
