use Rattle.std.proofs.Common.{◌≡◌, ◌++◌, take}
use Rattle.saturation.specs.Waking.{named}
use Rattle.saturation.proofs.names.add_kind.Given as goal

abbrev pub invariant-loop-i : goal.invariant-loop-i
invariant-loop-i l = l.cells.items ≡ l.fn.cells.items ++ named l.kind (take l.i l.atoms)
