use Rattle.tp_base.specs.Classes.{has_class}
use Rattle.proof_maker.specs.Worlds.{labels_of}
use Rattle.proof_maker.proofs.WorldLemmas.{all_stop, all_next}
use Rattle.proof_maker.proofs.worlds.has_all.Goals as goal

pub returns-then-not-has : goal.returns-then-not-has
returns-then-not-has g c =
    let own = labels_of c.args.world.now.system.now c.args.world.now.page.now c.args.place.now c.args.round in
    all_stop (λ x. has_class x own) c.args.atoms.now c.loop-i.i c.at.result c.at.ensures c.if-not-has.ensures.test c.loop-i.invariant

pub loop-i-preserved : goal.loop-i-preserved
loop-i-preserved g c =
    let own = labels_of c.args.world.now.system.now c.args.world.now.page.now c.args.place.now c.args.round in
    all_next (λ x. has_class x own) c.args.atoms.now c.loop-i.i c.at.result c.at.ensures c.if-not-has.ensures.test c.loop-i.invariant
