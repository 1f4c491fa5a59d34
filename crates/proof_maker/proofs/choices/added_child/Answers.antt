use Rattle.std.proofs.Common.{length, sym, ap, ◌∙◌, arith}
use Rattle.proof_maker.specs.Worlds.{spawn_has}
use Rattle.closed_page.proofs.ChildLemmas.{range_found, range_none}
use Rattle.proof_maker.proofs.FindLemmas.{range_next}
use Rattle.proof_maker.proofs.WorldLemmas.{spawn_is}
use Rattle.proof_maker.proofs.IdleLemmas.{idle_spawn}
use Rattle.proof_maker.proofs.choices.added_child.Goals as goal

pub loop-c-init : goal.loop-c-init
loop-c-init g c =
    let w = c.args.world.now in
    idle_spawn w c.args.scene.now.place.now c.args.scene.now.round c.args.from c.idle_at-first.result (c.idle_at-first.ensures w.system.now w.page.now c.requires.arrivals)

pub returns-then-spawn_stands : goal.returns-then-spawn_stands
returns-then-spawn_stands g c =
    let w = c.args.world.now in
    let is = spawn_is w c.args.scene.now.place.now c.args.scene.now.round c.args.from c.loop-c.c c.items-spawns.result.now c.index-spawns-c.result c.args.scene.now.visible.now c.spawn_stands.result c.items-spawns.ensures
    (omega (arith, c.loop-c-test.true)) c.index-spawns-c.is c.requires.visible c.spawn_stands.ensures in
    let count = ap length c.items-spawns.ensures in
    range_found (spawn_has w c.args.scene.now.place.now c.args.scene.now.round c.args.from) (length w.system.now.child) c.loop-c.c (omega (arith, c.loop-c-test.true, count)) (sym is ∙ c.if-spawn_stands.true) c.loop-c.invariant

pub loop-c-preserved : goal.loop-c-preserved
loop-c-preserved g c =
    let w = c.args.world.now in
    let is = spawn_is w c.args.scene.now.place.now c.args.scene.now.round c.args.from c.loop-c.c c.items-spawns.result.now c.index-spawns-c.result c.args.scene.now.visible.now c.spawn_stands.result c.items-spawns.ensures
    (omega (arith, c.loop-c-test.true)) c.index-spawns-c.is c.requires.visible c.spawn_stands.ensures in
    range_next (spawn_has w c.args.scene.now.place.now c.args.scene.now.round c.args.from) c.loop-c.c c.loop-c.invariant (sym is ∙ c.if-spawn_stands.false)

pub returns : goal.returns
returns g c =
    let w = c.args.world.now in
    let count = ap length c.items-spawns.ensures in
    range_none (spawn_has w c.args.scene.now.place.now c.args.scene.now.round c.args.from) (length w.system.now.child) (λ k less. c.loop-c.invariant k (omega (arith, less, c.loop-c-test.false, count)))
