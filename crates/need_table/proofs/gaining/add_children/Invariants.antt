use Rattle.std.proofs.Common.{◌≡◌, length}
use Rattle.std.specs.List.{flat_map}
use Rattle.std.specs.List.Sorted.{IsStrictlyIncreasing}
use Rattle.tp_base.specs.Classes.{union_of}
use Rattle.need_table.specs.Turns.{given_at}
use Rattle.need_table.proofs.gaining.add_children.Given as goal

abbrev pub invariant-places : goal.invariant-places
invariant-places l = record {
  rises : IsStrictlyIncreasing l.next;
  given : union_of l.next (flat_map (given_at l.system l.entries l.from l.to) l.rest) ≡ union_of l.initial.next (flat_map (given_at l.system l.entries l.from l.to) l.children);
}

abbrev pub decreases-places : goal.decreases-places
decreases-places l = length l.rest
