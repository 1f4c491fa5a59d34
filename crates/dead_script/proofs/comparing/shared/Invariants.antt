use Rattle.std.proofs.Common.{◌≡◌, ◌≤◌, ◌-◌, length, map, take}
use Rattle.dead_script.proofs.comparing.shared.Given as goal

abbrev pub invariant-items : goal.invariant-items
invariant-items g l = record {
  in_first : l.count ≤ length l.first;
  in_second : l.count ≤ length l.second;
  same : take l.count (map g.T.Compared.seen l.first) ≡ take l.count (map g.T.Compared.seen l.second);
}

abbrev pub decreases-items : goal.decreases-items
decreases-items g l = length l.first - l.count
