use Rattle.std.proofs.Common.{All}
use Rattle.run_trace.specs.Known.{AreKnownTo, IsBranch}
use Rattle.run_trace.proofs.together.known_traces.Given as goal

abbrev pub invariant-turns : goal.invariant-turns
invariant-turns l = record {
  done : All (IsBranch l.task) l.branches.items;
  known : AreKnownTo l.task l.known.items;
}
