use Rattle.std.proofs.Common.{◌≡◌, ◌++◌, take}
use Rattle.saturation.specs.Waking.{with_atom}
use Rattle.saturation.proofs.parents.add_atom.Given as goal

abbrev pub invariant-loop-i : goal.invariant-loop-i
invariant-loop-i l = l.todo.items ≡ l.fn.todo.items ++ with_atom l.atom (take l.i l.kinds)
