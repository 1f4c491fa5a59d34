use Rattle.std.specs.Io.KnownBytes.{Keeps}
use Rattle.tp_io.proofs.host_sink.write_some.Given as goal

-- a write that a signal cut off wrote nothing
abbrev pub invariant-loop : goal.invariant-loop
invariant-loop g l = Keeps (g.W.Write.contents l.initial.stream) (g.W.Write.contents l.stream)
