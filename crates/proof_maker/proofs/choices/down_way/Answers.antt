use Rattle.std.proofs.Common.{sym, ◌∙◌}
use Rattle.proof_needs.specs.Choices.{ways_down}
use Rattle.proof_maker.specs.Reasons.{found_reason}
use Rattle.proof_maker.specs.Worlds.{setting_of, path_of, stands_at}
use Rattle.proof_maker.proofs.FindLemmas.{each_here, each_next}
use Rattle.proof_maker.proofs.choices.down_way.Goals as goal

pub returns-then-is_some-clause-choice : goal.returns-then-is_some-clause-choice
returns-then-is_some-clause-choice g c =
    let w = c.args.world.now in
    let place = c.args.place.now in
    each_here (stands_at w place c.args.round) (ways_down w.system.now (setting_of w.system.now w.page.now place) (path_of place)) found_reason c.args.links.now c.loop-link.link-index _ c.in_ok-way.way
    c.loop-link-test.true (sym c.is_some.ensures ∙ c.if-is_some.true) c.in_ok-way.ensures.choice c.loop-link.invariant

pub loop-link-preserved : goal.loop-link-preserved
loop-link-preserved g c =
    let w = c.args.world.now in
    let place = c.args.place.now in
    each_next (stands_at w place c.args.round) (ways_down w.system.now (setting_of w.system.now w.page.now place) (path_of place)) found_reason c.args.links.now c.loop-link.link-index _ c.in_ok-way.way
    c.loop-link-test.true (sym c.is_some.ensures ∙ c.if-is_some.false) c.in_ok-way.ensures.choice c.loop-link.invariant
