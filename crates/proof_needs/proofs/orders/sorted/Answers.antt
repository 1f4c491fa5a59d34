use Rattle.proof_needs.proofs.SortLemmas.{sorted_is}
use Rattle.proof_needs.proofs.orders.sorted.Goals as goal

pub returns : goal.returns
returns c = sorted_is c.args.needs.now c.in_ok-ranks.ranks.items c.sort.new.self.items c.in_ok-ranks.ensures c.sort.ensures.permutation c.in_ok-sort.ensures.sorted
