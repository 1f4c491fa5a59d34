use Rattle.simple_core.specs.Rounds.{grown}
use Rattle.proof_maker.proofs.ArrivalLemmas.{sorted_arrivals}
use Rattle.proof_maker.proofs.arrivals.arrivals_of.Goals as goal

pub returns : goal.returns
returns g c =
    let s = g.S.Summaries.system c.args.sums.now in
    sorted_arrivals s.visible (λ k. grown s k c.args.kind c.args.parent.now) c.in_ok-items.items.items c.by_rounds.result c.in_ok-items.ensures c.by_rounds.ensures.permutation c.by_rounds.ensures.order
