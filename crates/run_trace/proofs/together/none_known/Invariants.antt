use Rattle.std.proofs.Common.{◌≡◌, ℕ, get_or, None}
use Rattle.run_trace.proofs.together.none_known.Given as goal

abbrev pub invariant-loop-item : goal.invariant-loop-item
invariant-loop-item l = (n : ℕ) → get_or l.known.items n None ≡ None
