use Rattle.std.proofs.Common.{◌<◌, Contains, subst}
use Rattle.std.proofs.lemmas.List.{length-map}
use Rattle.proof_needs.specs.Spots.{paths_in, triples_in, triple_of}
use Rattle.proof_needs.specs.Wants.{want_of}
use Rattle.proof_maker.proofs.SpotLemmas.{node_looked, key_looked, triple_bound, node_glanced, key_glanced}
use Rattle.proof_maker.proofs.WorkLemmas.{if_ok}
use Rattle.proof_maker.proofs.looking.glance_at.Goals as goal

pub glance_node-requires-clause-node : goal.glance_node-requires-clause-node
glance_node-requires-clause-node g c =
    let n = c.args.needs.now in
    node_looked c.args.world.now.system.now c.args.world.now.page.now n.target (g.S.Summaries.known c.args.world.now.sums.now) (paths_in n.nodes.keys) (triples_in n.triples.keys) n.ties.items n.wants.keys n.drafts.items c.requires.working.list
    c.in-Page.n c.args.want.now.atom (subst (λ z. Contains n.wants.keys (want_of z c.args.want.now.atom)) c.in-Page.is c.requires.wanted)

pub key_at-key-requires : goal.key_at-key-requires
key_at-key-requires g c =
    let n = c.args.needs.now in
    subst (λ z. c.in-Added.n < z) (length-map n.triples.keys triple_of)
    (triple_bound c.args.world.now.system.now c.args.world.now.page.now n.target (g.S.Summaries.known c.args.world.now.sums.now) (paths_in n.nodes.keys) (triples_in n.triples.keys) n.ties.items n.wants.keys n.drafts.items c.requires.working.list
    c.in-Added.n c.args.want.now.atom (subst (λ z. Contains n.wants.keys (want_of z c.args.want.now.atom)) c.in-Added.is c.requires.wanted))

pub glance_added-requires-clause-key : goal.glance_added-requires-clause-key
glance_added-requires-clause-key g c =
    let n = c.args.needs.now in
    key_looked c.args.world.now.system.now c.args.world.now.page.now n.target (g.S.Summaries.known c.args.world.now.sums.now) (paths_in n.nodes.keys) (triples_in n.triples.keys) n.ties.items n.wants.keys n.drafts.items c.requires.working.list
    c.in-Added.n c.args.want.now.atom (triple_of c.key_at-key.result.now) c.key_at-key.ensures (subst (λ z. Contains n.wants.keys (want_of z c.args.want.now.atom)) c.in-Added.is c.requires.wanted)

pub returns-in-Page-clause-glance : goal.returns-in-Page-clause-glance
returns-in-Page-clause-glance g c =
    let n = c.args.needs.now in
    if_ok c.glance_node.result (λ glance is.
    node_glanced c.args.world.now.system.now c.args.world.now.page.now n.target (g.S.Summaries.known c.args.world.now.sums.now) (paths_in n.nodes.keys) (triples_in n.triples.keys) n.ties.items n.wants.keys n.drafts.items c.requires.working.list
    c.args.want.now.spot c.in-Page.n c.args.want.now.atom glance c.in-Page.is c.requires.wanted is) c.glance_node.ensures

pub returns-in-Added-clause-glance : goal.returns-in-Added-clause-glance
returns-in-Added-clause-glance g c =
    let n = c.args.needs.now in
    if_ok c.glance_added.result (λ glance is.
    key_glanced c.args.world.now.system.now c.args.world.now.page.now n.target (g.S.Summaries.known c.args.world.now.sums.now) (paths_in n.nodes.keys) (triples_in n.triples.keys) n.ties.items n.wants.keys n.drafts.items c.requires.working.list
    c.args.want.now.spot c.in-Added.n c.args.want.now.atom glance c.in-Added.is (triple_of c.key_at-key.result.now) c.key_at-key.ensures is) c.glance_added.ensures.glance
