use Rattle.std.proofs.Common.{None, length}
use Rattle.class_adding.specs.declared.looking.Look.{Look}
use Rattle.class_adding.proofs.WrittenLemmas.{IsWriting}
use Rattle.class_adding.proofs.work.write_all_wakes.Given as goal

abbrev pub invariant-looks : goal.invariant-looks
invariant-looks l = IsWriting (λ (m : Look). m.wake) None l.looks l.rest l.initial.wakes.items l.wakes.items

abbrev pub decreases-looks : goal.decreases-looks
decreases-looks l = length l.rest
