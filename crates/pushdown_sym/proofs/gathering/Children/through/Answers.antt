use Rattle.std.proofs.lemmas.List.{get_or_default}
use Rattle.pushdown_sym.specs.Givers.{of_place}
use Rattle.pushdown_sym.specs.Children.{standing_at}
use Rattle.pushdown_sym.proofs.ChildLemmas.{with_more}
use Rattle.pushdown_sym.proofs.gathering.Children.through.Goals as goal

pub loop-i-preserved : goal.loop-i-preserved
loop-i-preserved c =
    with_more (of_place (standing_at c.args.now.now c.args.spawns.now c.args.doors.now) c.args.links.now) _ c.args.places.now c.loop-i.i _ c.loop-i.children c.add_through_at.new.self c.loop-i-test.true
    (get_or_default c.args.places.now c.loop-i.i _ _ c.loop-i-test.true) c.loop-i.invariant c.in_ok-add_through_at.ensures
