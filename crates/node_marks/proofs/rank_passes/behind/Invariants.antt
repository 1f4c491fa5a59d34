use Rattle.std.proofs.Common.{◌≡◌, ℕ, ◌≤◌, length}
use Rattle.node_marks.specs.Passes.{AreBehind, AreSeen, SeenBefore}
use Rattle.node_marks.specs.Ranks.{under}
use Rattle.node_marks.proofs.rank_passes.behind.Given as goal

abbrev pub invariant-nodes : goal.invariant-nodes
invariant-nodes l = record {
  made : (k : ℕ) → k ≤ length l.parents → AreBehind l.parents (under k l.ranks) (under k l.made.items) l.i;
  seen : (k : ℕ) → k ≤ length l.parents → AreSeen l.parents (under k l.seen.items) (SeenBefore l.parents (under k l.ranks) l.i);
  count : length l.seen.items ≡ length l.parents;
}
