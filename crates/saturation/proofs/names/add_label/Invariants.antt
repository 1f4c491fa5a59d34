use Rattle.std.proofs.Common.{◌≡◌, ◌++◌, take}
use Rattle.saturation.specs.Starting.{labelled}
use Rattle.saturation.proofs.names.add_label.Given as goal

abbrev pub invariant-loop-i : goal.invariant-loop-i
invariant-loop-i l = l.cells.items ≡ l.fn.cells.items ++ labelled l.kind (take l.i l.label)
