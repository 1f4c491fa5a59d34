use Rattle.std.proofs.Common.{◌≡◌, ◌+◌, ◌-◌, length}
use Rattle.pushdown_sym.specs.CellRows.{entries_of}
use Rattle.pushdown_sym.proofs.cells.reach.Given as goal

abbrev pub invariant-rows : goal.invariant-rows
invariant-rows l = entries_of l.rows.items ≡ entries_of l.fn.rows.items

abbrev pub decreases-rows : goal.decreases-rows
decreases-rows l = l.atom + 1 - length l.rows.items
