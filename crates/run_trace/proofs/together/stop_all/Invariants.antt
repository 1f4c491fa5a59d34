use Rattle.run_trace.specs.Known.{AreKnownTo}
use Rattle.run_trace.proofs.together.stop_all.Given as goal

abbrev pub invariant-lists : goal.invariant-lists
invariant-lists l = AreKnownTo l.task l.known.items
