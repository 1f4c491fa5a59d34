use Rattle.row_index.specs.Rows.{row_of}
use Rattle.pushdown_sym.proofs.NoteLemmas.{AreDoorsTo}
use Rattle.pushdown_sym.proofs.doors.Doors.of_spawns.Given as goal

abbrev pub invariant-loop-i : goal.invariant-loop-i
invariant-loop-i l = AreDoorsTo l.spawns l.now l.i (row_of l.rows)
