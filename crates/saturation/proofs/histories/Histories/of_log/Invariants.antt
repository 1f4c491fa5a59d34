use Rattle.std.proofs.Common.{◌≡◌, ◌<◌, ℕ, length}
use Rattle.saturation.specs.HistoryMap.{history_in}
use Rattle.saturation.proofs.histories.Histories.of_log.Given as goal

abbrev pub invariant-loop-i : goal.invariant-loop-i
invariant-loop-i l = (length l.rows.items ≡ l.i) × ((j a : ℕ) → j < l.i → history_in l.rows.items j a ≡ history_in l.log j a)
