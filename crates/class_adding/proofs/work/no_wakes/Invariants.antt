use Rattle.std.proofs.Common.{◌≡◌, ◌-◌, ◌≤◌, ℕ, length, get_or, None}
use Rattle.class_adding.proofs.work.no_wakes.Given as goal

abbrev pub invariant-nodes : goal.invariant-nodes
invariant-nodes l = record {
  long : length l.wakes.items ≡ l.i;
  within : l.i ≤ l.count;
  none : (j : ℕ) → get_or l.wakes.items j None ≡ None;
}

abbrev pub decreases-nodes : goal.decreases-nodes
decreases-nodes l = l.count - l.i
