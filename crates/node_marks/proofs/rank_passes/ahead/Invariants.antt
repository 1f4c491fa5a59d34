use Rattle.std.proofs.Common.{◌≡◌, ℕ, ◌≤◌, length}
use Rattle.node_marks.specs.Passes.{AreSeen, SeenFrom}
use Rattle.node_marks.specs.Ranks.{under}
use Rattle.node_marks.proofs.PassLemmas.{IsAhead}
use Rattle.node_marks.proofs.rank_passes.ahead.Given as goal

abbrev pub invariant-nodes : goal.invariant-nodes
invariant-nodes l = record {
  within : l.next ≤ length l.parents;
  made_count : length l.made.items ≡ length l.parents;
  seen_count : length l.seen.items ≡ length l.parents;
  made : (k : ℕ) → k ≤ length l.parents → IsAhead l.parents (under k l.ranks) (under k l.made.items) l.next;
  seen : (k : ℕ) → k ≤ length l.parents → AreSeen l.parents (under k l.seen.items) (SeenFrom l.parents (under k l.ranks) l.next);
}

abbrev pub decreases-nodes : goal.decreases-nodes
decreases-nodes l = l.next
