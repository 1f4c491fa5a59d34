use Rattle.std.proofs.Common.{◌≡◌, ◌+◌, ◌++◌, length}
use Rattle.std.specs.List.Sorted.{IsStrictlyIncreasing}
use Rattle.tp_base.specs.Classes.{union_of}
use Rattle.tp_base.proofs.class_set.merged.Given as goal

abbrev pub invariant-walk : goal.invariant-walk
invariant-walk l = record {
  left_rising : IsStrictlyIncreasing l.left;
  right_rising : IsStrictlyIncreasing l.right;
  so_far : l.both.items ++ union_of l.left l.right ≡ union_of l.atoms l.others;
}

abbrev pub decreases-walk : goal.decreases-walk
decreases-walk l = length l.left + length l.right
