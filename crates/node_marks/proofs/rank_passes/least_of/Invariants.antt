use Rattle.std.proofs.Common.{ℕ, ◌≤◌, ◌<◌, ◌↔◌}
use Rattle.node_marks.specs.Ranks.{rank}
use Rattle.node_marks.proofs.rank_passes.least_of.Given as goal

abbrev pub invariant-nodes : goal.invariant-nodes
invariant-nodes l = (k : ℕ) → k ≤ l.len → (l.found < k) ↔ ((i : ℕ) × (i < l.i) × (rank l.ranks l.len i < k))
