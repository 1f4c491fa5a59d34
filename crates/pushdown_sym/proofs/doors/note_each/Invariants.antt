use Rattle.std.proofs.Common.{take}
use Rattle.row_index.specs.Rows.{row_of}
use Rattle.pushdown_sym.specs.Givers.{IsNoted}
use Rattle.pushdown_sym.proofs.doors.note_each.Given as goal

abbrev pub invariant-loop-i : goal.invariant-loop-i
invariant-loop-i l = IsNoted (take l.i l.kinds) l.place (row_of l.fn.rows) (row_of l.rows)
