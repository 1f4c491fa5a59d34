use Rattle.std.proofs.Common.{◌≡◌, ◌+◌, ◌-◌, ℕ, length}
use Rattle.row_index.specs.Rows.{row_of}
use Rattle.row_index.proofs.index.Index.reach.Given as goal

abbrev pub invariant-rows : goal.invariant-rows
invariant-rows l = (k : ℕ) → row_of l.self-inside.rows.items k ≡ row_of l.fn.self k

abbrev pub decreases-rows : goal.decreases-rows
decreases-rows l = l.key + 1 - length l.self-inside.rows.items
