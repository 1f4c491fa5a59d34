use Rattle.std.proofs.Common.{Contains, take}
use Rattle.saturation.specs.Tables.{noted_in, IsNoted}
use Rattle.saturation.proofs.tables.Table.note_each.Given as goal

abbrev pub invariant-loop-i : goal.invariant-loop-i
invariant-loop-i l = IsNoted (Contains (take l.i l.keys)) l.number (noted_in l.fn.self) (noted_in l.self)
