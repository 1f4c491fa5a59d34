use Rattle.std.proofs.Common.{Some, None, refl, ap, ◌∙◌}
use Rattle.proof_maker.specs.Reasons.{reason_of}
use Rattle.proof_maker.proofs.FindLemmas.{link_from, real_found, spawn_found, none_found}
use Rattle.proof_maker.proofs.choices.link_way.Goals as goal

pub returns-in-Some-clause-choice : goal.returns-in-Some-clause-choice
returns-in-Some-clause-choice g c =
    let is = link_from c.items.result.now c.args.world.now.system.now.down c.args.link c.from_of-from.result c.items.ensures c.from_of-from.ensures in
    ap (λ w. Some (reason_of w)) c.alone.ensures
    ∙ real_found c.args.world.now c.args.place.now c.args.round c.args.link c.from_of-from.result is (Some c.in-Some.child) c.in-Some.ensures c.in-Some.child refl

pub returns-in-Some-added_child-clause-choice : goal.returns-in-Some-added_child-clause-choice
returns-in-Some-added_child-clause-choice g c =
    let is = link_from c.items.result.now c.args.world.now.system.now.down c.args.link c.from_of-from.result c.items.ensures c.from_of-from.ensures in
    spawn_found c.args.world.now c.args.place.now c.args.round c.args.link c.from_of-from.result is None c.in_default.ensures c.in-Some-added_child.spawn refl c.in-Some-added_child.ensures

pub returns-in-None-clause-choice : goal.returns-in-None-clause-choice
returns-in-None-clause-choice g c =
    let is = link_from c.items.result.now c.args.world.now.system.now.down c.args.link c.from_of-from.result c.items.ensures c.from_of-from.ensures in
    none_found c.args.world.now c.args.place.now c.args.round c.args.link c.from_of-from.result is None c.in_default.ensures refl c.in-None.ensures
