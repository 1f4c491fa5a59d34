use Rattle.std.specs.Io.KnownBytes.{Keeps}
use Rattle.tp_io.proofs.host_files.read_some.Given as goal

-- a read that a signal cut off read nothing
abbrev pub invariant-loop : goal.invariant-loop
invariant-loop g l = Keeps (g.F.Read.remaining l.initial.file) (g.F.Read.remaining l.file)
