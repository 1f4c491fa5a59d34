use Rattle.proof_maker.proofs.WorldLemmas.{node_first, node_never}
use Rattle.proof_maker.proofs.worlds.node_has.Goals as goal

pub returns-in-Some : goal.returns-in-Some
returns-in-Some g c =
    let w = c.args.world.now in
    node_first w.system.now w.page.now w.closed.now c.requires.ready.closed c.args.at.now c.requires.node c.args.atom c.args.round c.in-Some.first c.in-Some.ensures

pub returns-in-None : goal.returns-in-None
returns-in-None g c =
    let w = c.args.world.now in
    node_never w.system.now w.page.now w.closed.now c.requires.ready.closed c.args.at.now c.requires.node c.args.atom c.args.round c.in-None.ensures
