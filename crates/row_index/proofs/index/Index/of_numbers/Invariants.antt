use Rattle.std.proofs.Common.{take}
use Rattle.row_index.specs.Rows.{AreByNumber}
use Rattle.row_index.proofs.index.Index.of_numbers.Given as goal

abbrev pub invariant-loop-i : goal.invariant-loop-i
invariant-loop-i l = AreByNumber (take l.i l.numbers) l.index
