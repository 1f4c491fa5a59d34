use Rattle.std.proofs.Common.{◌≡◌, ℕ, ◌≤◌, ◌<◌, true}
use Rattle.node_marks.specs.Marks.{mark}
use Rattle.node_marks.specs.Ranks.{rank}
use Rattle.node_marks.proofs.rank_passes.is_any_without.Given as goal

abbrev pub invariant-nodes : goal.invariant-nodes
invariant-nodes l = (i : ℕ) → i < l.i → mark l.marks i ≡ true → l.len ≤ rank l.ranks l.len i → ⊥
