use Rattle.std.proofs.Common.{◌≡◌, ℕ, ◌≤◌, List, [], ◌++◌, length}
use Rattle.tp_io.specs.Sinks.{Adds}
use Rattle.tp_io.proofs.sinks.put_all.Given as goal

-- what went out, and that the sink is the one given where nothing had to go out
abbrev pub invariant-puts : goal.invariant-puts
invariant-puts g l = record {
  gone : (part : List ℕ) × (part ++ l.rest ≡ l.piece) × Adds (g.O.Sink.written l.initial.out) (g.O.Sink.written l.out) part;
  never_falls : g.O.Sink.faults l.initial.out ≤ g.O.Sink.faults l.out;
  untouched : l.piece ≡ [] → l.out ≡ l.initial.out;
}

abbrev pub decreases-puts : goal.decreases-puts
decreases-puts g l = length l.rest
