use Rattle.std.proofs.Common.{◌≡◌, ◌+◌, ◌-◌, ℕ, length}
use Rattle.row_index.specs.Rows.{row_of}
use Rattle.pushdown_sym.proofs.ends.Ends.reach.Given as goal

abbrev pub invariant-rows : goal.invariant-rows
invariant-rows l = (m : ℕ) → row_of l.self-inside.rows.items m ≡ row_of l.fn.self m

abbrev pub decreases-rows : goal.decreases-rows
decreases-rows l = l.number + 1 - length l.self-inside.rows.items
