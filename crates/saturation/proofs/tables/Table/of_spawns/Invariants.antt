use Rattle.std.proofs.Common.{take}
use Rattle.saturation.specs.Tables.{noted_in, OfSpawns}
use Rattle.saturation.proofs.tables.Table.of_spawns.Given as goal

abbrev pub invariant-loop-i : goal.invariant-loop-i
invariant-loop-i l = OfSpawns (take l.i l.spawns) (noted_in l.table)
