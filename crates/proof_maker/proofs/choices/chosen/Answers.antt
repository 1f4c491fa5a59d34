use Rattle.std.proofs.Common.{◌≡◌, suc, arith}
use Rattle.proof_maker.specs.Worlds.{setting_of, path_of}
use Rattle.proof_maker.proofs.GlanceLemmas.{chosen_found, chosen_none}
use Rattle.proof_maker.proofs.choices.chosen.Goals as goal

pub returns-in-Some-way-clause-choice : goal.returns-in-Some-way-clause-choice
returns-in-Some-way-clause-choice g c =
    let w = c.args.world.now in
    let later : c.args.round ≡ suc c.in-Some.before = omega (arith, c.in-Some.ensures) in
    chosen_found w.system.now (setting_of w.system.now w.page.now c.args.place.now) (path_of c.args.place.now) c.args.atom c.args.round c.in-Some.before later
    c.in_ok-way-in-Some.way c.in_ok-way-in-Some.ensures.choice c.in-Some-way.found c.in-Some-way.is

pub returns-in-None-way-clause-choice : goal.returns-in-None-way-clause-choice
returns-in-None-way-clause-choice g c =
    let w = c.args.world.now in
    let later : c.args.round ≡ suc c.in-Some.before = omega (arith, c.in-Some.ensures) in
    chosen_none w.system.now (setting_of w.system.now w.page.now c.args.place.now) (path_of c.args.place.now) c.args.atom c.args.round c.in-Some.before later
    c.in_ok-way-in-Some.way c.in_ok-way-in-Some.ensures.choice c.alone-in-None-way.result c.in-None-way.is c.alone-in-None-way.ensures
