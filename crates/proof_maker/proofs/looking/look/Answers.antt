use Rattle.std.proofs.Common.{◌≡◌, length, Some, slice_get, arith}
use Rattle.tp_base.proofs.Lists.{Contains-at}
use Rattle.proof_needs.specs.Spots.{paths_in, triples_in}
use Rattle.proof_maker.proofs.WorkLemmas.{next_is, tie_index, next_working}
use Rattle.proof_maker.proofs.looking.look.Goals as goal

pub follow-requires : goal.follow-requires
follow-requires g c =
    let n = c.args.needs.now in
    let w = c.index-as_slice-next.result in
    let at : c.len-next.result ≡ length n.drafts.items = omega (arith, c.len-next.ensures, n.drafts.ok.0) in
    let next : slice_get n.wants.keys (length n.drafts.items) ≡ Some w = next_is c.as_slice.result.now n.wants.keys c.len-next.result (length n.drafts.items) w c.as_slice.ensures.keys at c.requires.more c.index-as_slice-next.is in
    let list = c.requires.working.list in
    record {
      ties = tie_index c.args.world.now.system.now c.in_ok-glance.glance.below (paths_in n.nodes.keys) (triples_in n.triples.keys) (triples_in c.enter.new.needs.triples.keys) n.ties.items c.enter.new.needs.ties.items list.tie_count
          w.spot (list.wanted w (Contains-at n.wants.keys (length n.drafts.items) w next)).spot c.in_ok-glance.glance.choice c.in_ok-triple.triple c.in_ok-triple.ensures.enters;
    }

pub returns-clause-working : goal.returns-clause-working
returns-clause-working g c =
    let s = c.args.world.now.system.now in
    let known = g.S.Summaries.known c.args.world.now.sums.now in
    let n = c.args.needs.now in
    let w = c.index-as_slice-next.result in
    let at : c.len-next.result ≡ length n.drafts.items = omega (arith, c.len-next.ensures, n.drafts.ok.0) in
    let next : slice_get n.wants.keys (length n.drafts.items) ≡ Some w = next_is c.as_slice.result.now n.wants.keys c.len-next.result (length n.drafts.items) w c.as_slice.ensures.keys at c.requires.more c.index-as_slice-next.is in
    next_working s c.args.world.now.page.now known c.requires.ready.asked n c.enter.new.needs c.follow.new.needs c.requires.working w next c.in_ok-glance.glance c.in_ok-glance.ensures.glance c.in_ok-glance.ensures.asking c.in_ok-triple.triple
    c.in_ok-triple.ensures.enters c.in_ok-triple.ensures.nodes c.in_ok-triple.ensures.wants c.in_ok-triple.ensures.drafts c.in_ok-triple.ensures.target
    c.in_ok-follow.ensures.follows c.in_ok-follow.ensures.triples c.in_ok-follow.ensures.drafts c.in_ok-follow.ensures.target c.push.new.self c.in_ok-push.ensures.items
