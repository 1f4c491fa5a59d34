use Rattle.std.proofs.Common.{sym, ap, ◌∙◌}
use Rattle.tp_base.specs.Classes.{has_class}
use Rattle.proof_maker.specs.Worlds.{labels_of}
use Rattle.proof_maker.proofs.WorldLemmas.{shown}
use Rattle.proof_maker.proofs.choices.is_there.Goals as goal

pub returns-then-has : goal.returns-then-has
returns-then-has g c =
    let w = c.args.world.now in
    let scene = c.args.scene.now in
    let a = c.args.atom in
    c.is_seen.ensures ∙ ap (has_class a) c.requires.visible
    ∙ sym (shown w.system.now.visible (labels_of w.system.now w.page.now scene.place.now scene.round) a (sym (ap (has_class a) c.requires.ready.marks) ∙ sym c.has.ensures ∙ c.if-has.true))
