use Rattle.proof_maker.specs.Making.{AreEntries}
use Rattle.proof_maker.proofs.entries.entries_of.Given as goal

abbrev pub invariant-loop-i : goal.invariant-loop-i
invariant-loop-i l = AreEntries l.needs l.order.keys l.system l.orders l.i l.entries
