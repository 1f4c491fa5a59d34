use Rattle.std.proofs.Common.{◌≡◌, ℕ, length, Contains}
use Rattle.tp_base.specs.Classes.{union_of}
use Rattle.rule_index.specs.Indexes.{at_row, given_in}
use Rattle.rule_index.proofs.indexed_system.add_rules_by.Given as goal

abbrev pub invariant-places : goal.invariant-places
invariant-places l = record {
  whole : union_of l.next (at_row (given_in l.label) l.rules l.rest) ≡ union_of l.initial.next (at_row (given_in l.label) l.rules l.row);
  kept : (y : ℕ) → Contains l.initial.next y → Contains l.next y;
}

abbrev pub decreases-places : goal.decreases-places
decreases-places l = length l.rest
