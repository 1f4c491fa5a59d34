use Rattle.std.proofs.Common.{◌≡◌, ◌++◌, take}
use Rattle.saturation.specs.Waking.{named}
use Rattle.saturation.proofs.waking.add_named.Given as goal

abbrev pub invariant-loop-i : goal.invariant-loop-i
invariant-loop-i l = l.todo.items ≡ l.fn.todo.items ++ named l.kind (take l.i l.atoms)
