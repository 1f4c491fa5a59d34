use Rattle.std.proofs.Common.{take}
use Rattle.saturation.specs.Tables.{noted_in, OfNeeds}
use Rattle.saturation.proofs.tables.Table.of_needs.Given as goal

abbrev pub invariant-loop-i : goal.invariant-loop-i
invariant-loop-i l = OfNeeds (take l.i l.rules) (noted_in l.table)
