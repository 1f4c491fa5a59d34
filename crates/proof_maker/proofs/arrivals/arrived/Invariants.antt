use Rattle.std.proofs.Common.{take}
use Rattle.proof_maker.proofs.ArrivalLemmas.{AreBegun}
use Rattle.proof_maker.proofs.arrivals.arrived.Given as goal

abbrev pub invariant-loop-i : goal.invariant-loop-i
invariant-loop-i l = AreBegun (take l.i l.arrivals) l.round l.atoms.items
