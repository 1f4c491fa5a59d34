use Rattle.std.proofs.Common.{sym, ap, ◌∙◌}
use Rattle.tp_base.specs.Classes.{has_class}
use Rattle.simple_core.specs.Pages.{page_round}
use Rattle.proof_maker.proofs.WorldLemmas.{shown, unshown}
use Rattle.proof_maker.proofs.worlds.shows.Goals as goal

pub returns-then-not-has : goal.returns-then-not-has
returns-then-not-has g c =
    let w = c.args.world.now in
    unshown w.system.now.visible (page_round w.system.now w.page.now c.args.round c.args.at.now) c.args.atom (sym (c.if-not-has.ensures ∙ ap (has_class c.args.atom) c.requires.ready.marks))

pub returns : goal.returns
returns g c =
    let w = c.args.world.now in
    c.node_has.ensures ∙ shown w.system.now.visible (page_round w.system.now w.page.now c.args.round c.args.at.now) c.args.atom (sym (c.if-not-has.ensures ∙ ap (has_class c.args.atom) c.requires.ready.marks))
