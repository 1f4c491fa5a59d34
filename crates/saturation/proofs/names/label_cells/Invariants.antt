use Rattle.std.proofs.Common.{◌≡◌}
use Rattle.saturation.specs.Starting.{labelled_each}
use Rattle.saturation.proofs.names.label_cells.Given as goal

abbrev pub invariant-loop-i : goal.invariant-loop-i
invariant-loop-i l = l.cells.items ≡ labelled_each l.system l.i
