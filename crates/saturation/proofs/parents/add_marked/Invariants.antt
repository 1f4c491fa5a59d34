use Rattle.std.proofs.Common.{◌≡◌, ◌++◌, take}
use Rattle.saturation.specs.Waking.{seen_each}
use Rattle.saturation.proofs.parents.add_marked.Given as goal

abbrev pub invariant-loop-i : goal.invariant-loop-i
invariant-loop-i l = l.todo.items ≡ l.fn.todo.items ++ seen_each l.marks l.atoms (take l.i l.kinds)
