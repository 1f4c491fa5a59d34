use Rattle.std.proofs.Common.{◌<◌, length, sym, ap, ◌∙◌, subst, arith}
use Rattle.std.proofs.lemmas.List.{length-map}
use Rattle.proof_maker.specs.Needs.{UsesMore}
use Rattle.proof_needs.specs.Spots.{paths_in, triples_in, triple_of}
use Rattle.proof_maker.proofs.EndLemmas.{target_comes, start_right, uses_more}
use Rattle.proof_maker.proofs.looking.needs_of.Goals as goal

pub wants-init : goal.wants-init
wants-init g c =
    let s = c.args.world.now.system.now in
    let page = c.args.world.now.page.now in
    let n = c.in_ok-needs.needs in
    let start = c.in_ok-needs.ensures in
    let none = sym (length-map n.triples.keys triple_of) ∙ ap length start.no_triples in
    record {
      working = start_right s page c.args.target (g.S.Summaries.known c.args.world.now.sums.now) n start (target_comes s page c.args.target c.args.world.now.closed.now c.requires.ready.closed c.requires.target);
      target_is = start.target_is;
      few = omega (arith, none);
      memo = c.requires.memo;
    }

pub returns-then-len-limit-clause-needs : goal.returns-then-len-limit-clause-needs
returns-then-len-limit-clause-needs g c =
    let s = c.args.world.now.system.now in
    let page = c.args.world.now.page.now in
    let n = c.look.new.needs in
    let long = length-map n.triples.keys triple_of in
    let more : c.args.limit < length (triples_in n.triples.keys) = omega (arith, long, c.len-in-wants-2.ensures.len, c.if-len-limit.true) in
    subst (λ z. UsesMore s page z c.args.limit) (c.in_ok-look.ensures.target ∙ c.wants.invariant.target_is)
    (uses_more s page n.target c.args.limit (g.S.Summaries.known c.args.world.now.sums.now) (paths_in n.nodes.keys) (triples_in n.triples.keys) n.ties.items n.wants.keys n.drafts.items c.in_ok-look.ensures.working.list more)
