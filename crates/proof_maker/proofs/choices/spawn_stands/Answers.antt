use Rattle.std.proofs.Common.{◌&&◌, ap, ◌∙◌}
use Rattle.tp_base.specs.Classes.{has_class}
use Rattle.simple_core.specs.declared.system.System.{System}
use Rattle.simple_core.specs.Rounds.{grown}
use Rattle.proof_maker.proofs.WorldLemmas.{below_known}
use Rattle.proof_maker.proofs.choices.spawn_stands.Goals as goal

pub added_has-requires : goal.added_has-requires
added_has-requires g c = record {
  known =
      below_known g.S.Summaries c.args.world.now c.requires.ready c.args.scene.now.place.now c.args.scene.now.round c.args.spawn.now c.args.scene.now.visible.now c.requires.place c.requires.asking c.requires.listed
      c.if-not-is_there.ensures c.requires.visible;
}

pub returns : goal.returns
returns g c =
    let scene = c.args.scene.now in
    c.added_has.ensures.test
    ∙ ap (λ (s : System). has_class c.args.from (grown s scene.round c.args.spawn.now.kind scene.visible.now)) c.requires.ready.made
    ∙ ap (λ b. b && has_class c.args.from (grown c.args.world.now.system.now scene.round c.args.spawn.now.kind scene.visible.now)) c.if-not-is_there.ensures
