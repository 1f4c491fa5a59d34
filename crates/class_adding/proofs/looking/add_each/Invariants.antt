use Rattle.std.proofs.Common.{◌≡◌, length}
use Rattle.std.specs.List.Sorted.{IsStrictlyIncreasing}
use Rattle.tp_base.specs.Classes.{union_of}
use Rattle.simple_core.specs.Labels.{given_by_links}
use Rattle.class_adding.specs.Fresh.{set_at, given_at}
use Rattle.class_adding.proofs.looking.add_each.Given as goal

abbrev pub invariant-numbers : goal.invariant-numbers
invariant-numbers l = record {
  given : union_of l.next (given_at l.system l.own l.rest) ≡ union_of l.initial.next (given_at l.system l.own l.row);
  rises : IsStrictlyIncreasing l.next;
  last : l.next ≡ union_of l.next (given_by_links l.system.down (set_at l.own l.last));
}

abbrev pub decreases-numbers : goal.decreases-numbers
decreases-numbers l = length l.rest
