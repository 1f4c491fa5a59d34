use Rattle.std.proofs.Common.{ℕ, take, Contains}
use Rattle.closed_page.proofs.notes.are_all_missing.Given as goal

abbrev pub invariant-loop-i : goal.invariant-loop-i
invariant-loop-i l = (a : ℕ) → Contains (take l.i l.set) a → Contains l.other a → ⊥
