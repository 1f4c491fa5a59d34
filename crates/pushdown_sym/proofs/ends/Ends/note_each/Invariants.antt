use Rattle.std.proofs.Common.{take}
use Rattle.row_index.specs.Rows.{row_of}
use Rattle.pushdown_sym.specs.Ends.{AreEndsNoted}
use Rattle.pushdown_sym.proofs.ends.Ends.note_each.Given as goal

abbrev pub invariant-loop-pair : goal.invariant-loop-pair
invariant-loop-pair l = AreEndsNoted (take l.pair-index l.pairs) (row_of l.fn.self) (row_of l.self)
