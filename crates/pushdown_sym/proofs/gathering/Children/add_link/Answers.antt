use Rattle.std.proofs.Common.{fold, ap, ◌∙◌}
use Rattle.pushdown_sym.specs.Children.{standing_at, with_child}
use Rattle.pushdown_sym.proofs.ChildLemmas.{link_added}
use Rattle.pushdown_sym.proofs.gathering.Children.add_link.Goals as goal

pub returns : goal.returns
returns c =
    c.in_ok-add_spawns.ensures
    ∙ ap (λ ps. fold with_child c.args.self.now (standing_at c.args.now.now c.args.spawns.now ps c.args.link.now)) c.deref.ensures.value
    ∙ ap (fold with_child c.args.self.now)
    (link_added c.args.now.now c.args.link.now c.args.spawns.now c.args.makers.now c.kinds_with.result.now c.in_ok-places.places.items c.requires.makers c.kinds_with.ensures
    c.in_ok-places.ensures.rising c.in_ok-places.ensures.whole)
