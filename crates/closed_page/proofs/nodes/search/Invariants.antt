use Rattle.std.proofs.Common.{◌≡◌, ◌<◌, ℕ, Some, get_or, slice_get}
use Rattle.closed_page.proofs.nodes.search.Given as goal

abbrev pub invariant-loop-i : goal.invariant-loop-i
invariant-loop-i l = (j : ℕ) → j < l.i → slice_get l.steps (get_or l.row j 0) ≡ Some l.step → ⊥
