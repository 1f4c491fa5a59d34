use Rattle.proof_needs.specs.Orders.{AreRanks}
use Rattle.proof_needs.proofs.orders.ranks_of.Given as goal

abbrev pub invariant-loop-i : goal.invariant-loop-i
invariant-loop-i l = AreRanks l.needs l.i l.ranks.items
