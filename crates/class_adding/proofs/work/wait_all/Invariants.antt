use Rattle.std.proofs.Common.{length}
use Rattle.class_adding.proofs.WrittenLemmas.{AreWaiting}
use Rattle.class_adding.proofs.work.wait_all.Given as goal

abbrev pub invariant-looks : goal.invariant-looks
invariant-looks l = AreWaiting l.initial.awaited l.awaited l.looks l.rest

abbrev pub decreases-looks : goal.decreases-looks
decreases-looks l = length l.rest
