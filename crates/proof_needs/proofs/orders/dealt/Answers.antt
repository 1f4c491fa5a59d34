use Rattle.std.proofs.Common.{◌<◌, [], length, get_or, refl, sym, subst}
use Rattle.std.proofs.lemmas.Option.{slice_get_read, slice_get-get_or}
use Rattle.proof_needs.specs.declared.orders.Rank.{Rank}
use Rattle.proof_needs.specs.Orders.{AreFrom}
use Rattle.proof_needs.proofs.OrderLemmas.{dealt_next, all_at}
use Rattle.proof_needs.proofs.orders.dealt.Goals as goal

pub loop-rank-init : goal.loop-rank-init
loop-rank-init c = subst (λ n. AreFrom c.args.needs.now.wants.keys n [] c.in_ok-orders.orders) c.len.ensures.len (c.in_ok-orders.ensures c.args.needs.now.wants.keys)

pub loop-rank-preserved : goal.loop-rank-preserved
loop-rank-preserved c =
    let ranks = c.args.ranks.now in
    let wants = c.args.needs.now.wants.keys in
    let ws = c.as_slice.result.now in
    let r = c.rank-item.result in
    let w = get_or ws r.want c.index-as_slice-want.result in
    let at = slice_get_read ranks (length ranks) c.loop-rank.rank-index r refl c.loop-rank-test.true c.rank-item.is in
    let within : r.want < length wants = all_at (λ (q : Rank). q.want < length wants) ranks c.loop-rank.rank-index r c.requires.wanted at in
    let at_w = slice_get-get_or ws r.want c.index-as_slice-want.result (subst (λ xs. r.want < length xs) (sym c.as_slice.ensures.keys) within) in
    dealt_next wants ws (length c.args.needs.now.triples.keys) ranks c.loop-rank.rank-index r w c.loop-rank.orders c.deal.new.orders
    c.as_slice.ensures.keys at at_w c.loop-rank.invariant c.in_ok-deal.ensures
