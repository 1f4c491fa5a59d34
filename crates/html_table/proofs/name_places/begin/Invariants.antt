use Rattle.std.proofs.Common.{◌≡◌, ℕ, suc, ◌-◌, ◌<◌, ◌≤◌, length, get_or}
use Rattle.html_table.proofs.name_places.begin.Given as goal

abbrev pub invariant-places : goal.invariant-places
invariant-places l = record {
  same : (i : ℕ) → get_or l.places.items i 0 ≡ get_or l.initial.places.items i 0;
  longer : length l.initial.places.items ≤ length l.places.items;
  few : (n : ℕ) → length l.initial.places.items ≤ n → l.number < n → length l.places.items ≤ n;
}

abbrev pub decreases-places : goal.decreases-places
decreases-places l = suc l.number - length l.places.items
