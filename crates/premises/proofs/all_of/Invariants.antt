use Rattle.std.proofs.Common.{◌≡◌, ◌++◌, length}
use Rattle.std.specs.Vec.Iter.{into_iter_items}
use Rattle.premises.proofs.all_of.Given as goal

abbrev pub invariant-arguments : goal.invariant-arguments
invariant-arguments l = l.all.items ++ into_iter_items l.left ≡ into_iter_items l.fn.left

abbrev pub decreases-arguments : goal.decreases-arguments
decreases-arguments l = length (into_iter_items l.left)
