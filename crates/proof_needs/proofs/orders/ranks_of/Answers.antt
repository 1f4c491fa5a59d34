use Rattle.std.proofs.Common.{◌+◌, sym, subst}
use Rattle.proof_needs.specs.Orders.{AreRanks}
use Rattle.proof_needs.proofs.SortLemmas.{ranks_next}
use Rattle.proof_needs.proofs.orders.ranks_of.Goals as goal

pub loop-i-preserved : goal.loop-i-preserved
loop-i-preserved c =
    subst (AreRanks c.args.needs.now (c.loop-i.i + 1)) (sym c.in_ok-push.ensures.items) (ranks_next c.args.needs.now c.loop-i.i c.loop-i.ranks.items c.in_ok-rank.rank c.loop-i.invariant c.in_ok-rank.ensures)
