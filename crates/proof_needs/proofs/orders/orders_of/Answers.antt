use Rattle.std.proofs.Common.{◌<◌, length, map, All, sym, subst}
use Rattle.proof_needs.specs.declared.orders.Rank.{Rank}
use Rattle.proof_needs.specs.Orders.{AreFrom}
use Rattle.proof_needs.proofs.OrderLemmas.{dealt_is, ranks_within, spots_within}
use Rattle.proof_needs.proofs.orders.orders_of.Goals as goal

pub dealt-requires-clause-wanted : goal.dealt-requires-clause-wanted
dealt-requires-clause-wanted c =
    subst (All (λ (r : Rank). r.want < length c.args.needs.now.wants.keys)) (sym c.deref.ensures.value) (ranks_within c.args.needs.now c.in_ok-ranks.ranks.items c.in_ok-ranks.ensures)

pub dealt-requires-clause-spots : goal.dealt-requires-clause-spots
dealt-requires-clause-spots c = spots_within c.args.needs.now c.requires.sortable

pub returns : goal.returns
returns c =
    dealt_is c.args.needs.now c.requires.sortable c.in_ok-ranks.ranks.items c.in_ok-orders.orders c.in_ok-ranks.ensures
    (subst (λ rs. AreFrom c.args.needs.now.wants.keys (length c.args.needs.now.triples.keys) (map (λ (r : Rank). r.want) rs) c.in_ok-orders.orders) c.deref.ensures.value c.in_ok-orders.ensures)
