use Rattle.std.proofs.Common.{fold, ap, ◌∙◌, arith}
use Rattle.std.proofs.lemmas.List.{get_or_default, take_all}
use Rattle.std.specs.List.{flat_map}
use Rattle.pushdown_sym.specs.Givers.{of_place}
use Rattle.pushdown_sym.specs.Children.{standing_by, with_child}
use Rattle.pushdown_sym.proofs.ChildLemmas.{with_more}
use Rattle.pushdown_sym.proofs.gathering.Children.add_spawns.Goals as goal

pub loop-i-preserved : goal.loop-i-preserved
loop-i-preserved c =
    with_more (of_place (standing_by c.args.now.now c.args.link.now) c.args.spawns.now) _ c.args.places.now c.loop-i.i _ c.loop-i.self c.add_spawn_at.new.self c.loop-i-test.true
    (get_or_default c.args.places.now c.loop-i.i _ _ c.loop-i-test.true) c.loop-i.invariant c.in_ok-add_spawn_at.ensures

pub returns : goal.returns
returns c =
    let f = of_place (standing_by c.args.now.now c.args.link.now) c.args.spawns.now in
    c.loop-i.invariant
    ∙ ap (λ ps. fold with_child c.args.self.now (flat_map f ps)) (take_all c.loop-i.i c.args.places.now (omega (arith, c.loop-i-test.false)))
