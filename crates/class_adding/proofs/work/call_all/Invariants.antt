use Rattle.std.proofs.Common.{◌⊎◌, length, Contains, IsTrue}
use Rattle.class_adding.specs.declared.looking.Look.{Look}
use Rattle.closed_page.specs.Labelled.{AreKidsAll, IsHeard}
use Rattle.class_adding.proofs.work.call_all.Given as goal

abbrev pub invariant-looks : goal.invariant-looks
invariant-looks l = record {
  only : AreKidsAll l.labels.nodes l.callers;
  left : (m : Look) → Contains l.rest m → Contains l.looks m;
  heard : (m : Look) → Contains l.looks m → Contains l.rest m ⊎ (IsTrue m.grew → IsHeard l.labels.nodes l.callers m.number);
}

abbrev pub decreases-looks : goal.decreases-looks
decreases-looks l = length l.rest
