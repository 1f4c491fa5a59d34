use Rattle.std.proofs.Common.{List, ℕ, ◌+◌, sym, subst, ◌∙◌, arith}
use Rattle.proof_maker.specs.Worlds.{labels_of}
use Rattle.proof_maker.proofs.WorldLemmas.{IsSeen, seen_more, seen_past, seen_all, labels_rise}
use Rattle.proof_maker.proofs.worlds.visible_now.Goals.{then-has+in_ok-add, else-has}
use Rattle.proof_maker.proofs.worlds.visible_now.Goals as goal

pub loop-i-preserved : goal.loop-i-preserved
loop-i-preserved g c =
    let visible = c.args.world.now.system.now.visible in
    let own = labels_of c.args.world.now.system.now c.args.world.now.page.now c.args.place.now c.args.round in
    elim c.if-has.branch [
      | then-has+in_ok-add w ↦
          subst (λ (z : List ℕ). IsSeen visible own z (c.loop-i.i + 1)) (sym (w.label-is ∙ w.in_ok-add.ensures.ok))
          (seen_more visible own c.loop-i.label c.loop-i.i c.at-atom.result c.at-atom.ensures w.if-has.ensures.test c.loop-i.invariant)
      | else-has w ↦
          subst (λ (z : List ℕ). IsSeen visible own z (c.loop-i.i + 1)) (sym w.label-is)
          (seen_past visible own c.loop-i.label c.loop-i.i c.at-atom.result c.at-atom.ensures w.if-has.ensures.test c.loop-i.invariant)
    ]

pub returns : goal.returns
returns g c =
    let s = c.args.world.now.system.now in
    let page = c.args.world.now.page.now in
    seen_all s.visible (labels_of s page c.args.place.now c.args.round) c.loop-i.label c.loop-i.i (omega (arith, c.loop-i-test.false, c.len-i-end.ensures.count))
    (labels_rise s page c.args.place.now c.args.round) c.loop-i.invariant
