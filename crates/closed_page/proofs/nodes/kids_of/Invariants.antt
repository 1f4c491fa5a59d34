use Rattle.std.proofs.Common.{take}
use Rattle.row_index.specs.Rows.{AreByNumber}
use Rattle.closed_page.specs.Numbered.{told}
use Rattle.closed_page.proofs.nodes.kids_of.Given as goal

abbrev pub invariant-loop-i : goal.invariant-loop-i
invariant-loop-i l = AreByNumber (take l.i (told l.numbers)) l.kids
