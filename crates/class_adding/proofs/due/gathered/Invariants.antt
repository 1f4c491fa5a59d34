use Rattle.std.proofs.Common.{◌⊎◌, ℕ, length, Contains, IsTrue}
use Rattle.class_adding.specs.declared.looking.Look.{Look}
use Rattle.class_adding.specs.Work.{IsNear, AreNumbers}
use Rattle.class_adding.proofs.due.gathered.Given as goal

abbrev pub invariant-looks : goal.invariant-looks
invariant-looks l = record {
  left : (m : Look) → Contains l.rest m → Contains l.looks m;
  within : AreNumbers l.labels.nodes l.due.items;
  near : (m : Look) → Contains l.looks m → Contains l.rest m ⊎ (IsTrue m.grew → IsNear l.labels.nodes m l.due.items);
  woken : (i : ℕ) → Contains l.woken i → Contains l.due.items i;
}

abbrev pub decreases-looks : goal.decreases-looks
decreases-looks l = length l.rest
