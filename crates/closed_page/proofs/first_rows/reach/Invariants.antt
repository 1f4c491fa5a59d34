use Rattle.std.proofs.Common.{◌≡◌, ◌+◌, ◌-◌, ℕ, length}
use Rattle.closed_page.specs.Runs.{row_at}
use Rattle.closed_page.proofs.first_rows.reach.Given as goal

abbrev pub invariant-rows : goal.invariant-rows
invariant-rows l = (a : ℕ) → row_at l.rows.items a ≡ row_at l.fn.rows.items a

abbrev pub decreases-rows : goal.decreases-rows
decreases-rows l = l.fn.atom + 1 - length l.rows.items
