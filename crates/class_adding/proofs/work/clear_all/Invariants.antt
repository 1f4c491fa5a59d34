use Rattle.std.proofs.Common.{length}
use Rattle.class_adding.specs.Work.{IsLessOf}
use Rattle.class_adding.proofs.work.clear_all.Given as goal

abbrev pub invariant-looks : goal.invariant-looks
invariant-looks l = IsLessOf l.initial.callers l.callers

abbrev pub decreases-looks : goal.decreases-looks
decreases-looks l = length l.rest
