use Rattle.std.proofs.Common.{◌⊎◌, ◌≤◌, ◌<◌, ℕ, length, Contains, IfSome}
use Rattle.class_adding.specs.declared.looking.Look.{Look}
use Rattle.class_adding.proofs.work.latest_of.Given as goal

abbrev pub invariant-looks : goal.invariant-looks
invariant-looks l = record {
  left : (m : Look) → Contains l.rest m → Contains l.looks m;
  least : l.latest ≤ l.last;
  until : (m : Look) → Contains l.looks m → Contains l.rest m ⊎ IfSome m.wake (λ r. r ≤ l.last);
  bound : (n : ℕ) → l.latest < n → ((m : Look) → Contains l.looks m → IfSome m.wake (λ r. r < n)) → l.last < n;
}

abbrev pub decreases-looks : goal.decreases-looks
decreases-looks l = length l.rest
