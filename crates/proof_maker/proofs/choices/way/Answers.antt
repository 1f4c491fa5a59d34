use Rattle.std.proofs.Common.{◌≡◌, Option, Some, find, option_map, sym, ap, ◌∙◌}
use Rattle.std.specs.List.{flat_map}
use Rattle.proof_maker.specs.declared.choices.Found as code
use Rattle.proof_needs.specs.Choices.{ways_down, ways}
use Rattle.proof_maker.specs.Reasons.{reason_of, found_reason}
use Rattle.proof_maker.specs.Worlds.{setting_of, path_of, stands_at}
use Rattle.proof_maker.proofs.FindLemmas.{local_found, up_found, down_left, ok_further}
use Rattle.proof_maker.proofs.choices.way.Goals as goal

pub returns-in-Some-clause-choice : goal.returns-in-Some-clause-choice
returns-in-Some-clause-choice g c =
    ap (λ w. Some (reason_of w)) c.alone.ensures
    ∙ local_found g.S.Summaries c.args.world.now c.requires.ready c.args.place.now c.args.atom c.args.round c.of.result.now c.in-Some.rule c.of.ensures c.in-Some.ensures

pub returns-in-Some-2-clause-choice : goal.returns-in-Some-2-clause-choice
returns-in-Some-2-clause-choice g c =
    ap (λ w. Some (reason_of w)) c.alone-in-Some-2.ensures
    ∙ up_found g.S.Summaries c.args.world.now c.requires.ready c.args.place.now c.args.atom c.args.round c.of.result.now c.of-2.result.now c.in-Some-2.link c.of.ensures c.of-2.ensures
    c.in_default.ensures (sym c.in-Some-2.is ∙ c.in_ok-link.ensures)

pub returns-clause-choice : goal.returns-clause-choice
returns-clause-choice g c =
    let w = c.args.world.now in
    let place = c.args.place.now in
    let set = setting_of w.system.now w.page.now place in
    ok_further c.down_way.result
    (λ (o : Option code.Found). option_map found_reason o ≡ find (stands_at w place c.args.round) (flat_map (ways_down w.system.now set (path_of place)) c.of-3.result.now))
    (λ (o : Option code.Found). option_map found_reason o ≡ find (stands_at w place c.args.round) (ways w.system.now set (path_of place) c.args.atom))
    c.down_way.ensures.choice
    (λ o is. down_left g.S.Summaries w c.requires.ready place c.args.atom c.args.round c.of.result.now c.of-2.result.now c.of-3.result.now (option_map found_reason o)
    c.of.ensures c.of-2.ensures c.of-3.ensures c.in_default.ensures (sym c.in_default-2.is ∙ c.in_ok-link.ensures) is)
