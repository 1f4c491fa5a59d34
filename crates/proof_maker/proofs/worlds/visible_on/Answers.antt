use Rattle.std.proofs.Common.{List, ℕ, ◌+◌, sym, subst, ◌∙◌, arith}
use Rattle.simple_core.specs.Labels.{visible_in}
use Rattle.simple_core.specs.Pages.{page_round}
use Rattle.proof_maker.proofs.WorldLemmas.{IsSeen, seen_more, seen_past, seen_all, seen_rises, closed_seen}
use Rattle.proof_maker.proofs.worlds.visible_on.Goals.{then-shows+in_ok-add, else-shows}
use Rattle.proof_maker.proofs.worlds.visible_on.Goals as goal

pub loop-i-preserved : goal.loop-i-preserved
loop-i-preserved g c =
    let own = c.args.own.now in
    let s = c.args.world.now.system.now in
    let seen = visible_in s (page_round s c.args.world.now.page.now c.args.round c.args.at.now) in
    elim c.if-shows.branch [
      | then-shows+in_ok-add w ↦
          subst (λ (z : List ℕ). IsSeen own seen z (c.loop-i.i + 1)) (sym (w.label-is ∙ w.in_ok-add.ensures.ok))
          (seen_more own seen c.loop-i.label c.loop-i.i c.at-atom.result c.at-atom.ensures w.if-shows.ensures c.loop-i.invariant)
      | else-shows w ↦
          subst (λ (z : List ℕ). IsSeen own seen z (c.loop-i.i + 1)) (sym w.label-is)
          (seen_past own seen c.loop-i.label c.loop-i.i c.at-atom.result c.at-atom.ensures w.if-shows.ensures c.loop-i.invariant)
    ]

pub returns : goal.returns
returns g c =
    let w = c.args.world.now in
    let own = c.args.own.now in
    let seen = visible_in w.system.now (page_round w.system.now w.page.now c.args.round c.args.at.now) in
    seen_all own seen c.loop-i.label c.loop-i.i (omega (arith, c.loop-i-test.false, c.len-i-end.ensures.count)) (seen_rises w.system.now w.page.now c.args.round c.args.at.now) c.loop-i.invariant
    ∙ closed_seen w.system.now w.page.now w.closed.now c.requires.ready.closed c.args.at.now own c.requires.own c.args.round
