use Rattle.std.proofs.Common.{◌≡◌, ◌+◌, ◌-◌, ℕ, length}
use Rattle.row_index.specs.Rows.{row_of}
use Rattle.row_index.proofs.rows.Rows.reach.Given as goal

abbrev pub invariant-rows : goal.invariant-rows
invariant-rows g l = (k : ℕ) → row_of l.self-inside.rows.items k ≡ row_of l.fn.self k

abbrev pub decreases-rows : goal.decreases-rows
decreases-rows g l = l.key + 1 - length l.self-inside.rows.items
