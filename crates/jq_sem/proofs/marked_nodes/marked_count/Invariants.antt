use Rattle.std.proofs.Common.{◌≡◌, ◌-◌, ◌≤◌}
use Rattle.jq_sem.specs.Runs.{count_marked}
use Rattle.jq_sem.proofs.marked_nodes.marked_count.Given as goal

abbrev pub invariant-loop-number : goal.invariant-loop-number
invariant-loop-number l = record {
  counted : l.count ≡ count_marked l.marks l.from (l.number - l.from);
  few : l.count ≤ l.number;
  behind : l.from ≤ l.number;
}
