use Rattle.std.proofs.Common.{◌≡◌, ◌-◌, ℕ, suc, map, length}
use Rattle.need_table.specs.Rows.{row_in}
use Rattle.need_table.proofs.rows.Rows.begin.Given as goal

abbrev pub invariant-rows : goal.invariant-rows
invariant-rows l = (p : ℕ) → row_in (map (λ v. v.items) l.self-inside.rows.items) p ≡ row_in (map (λ v. v.items) l.initial.self-inside.rows.items) p

abbrev pub decreases-rows : goal.decreases-rows
decreases-rows l = suc l.q - length l.self-inside.rows.items
