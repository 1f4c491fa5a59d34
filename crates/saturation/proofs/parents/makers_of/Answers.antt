use Rattle.std.proofs.Common.{ap, ◌∙◌}
use Rattle.std.proofs.lemmas.List.{get_or_default}
use Rattle.pushdown_sym.proofs.EndLemmas.{at_item}
use Rattle.saturation.proofs.WakingLemmas.{maker_skipped, maker_pushed, makers_are}
use Rattle.saturation.proofs.parents.makers_of.Goals as goal
use Rattle.saturation.proofs.parents.makers_of.Goals.{then-kind-count+in_ok-push, else-kind-count}

pub loop-i-preserved : goal.loop-i-preserved
loop-i-preserved c =
    let at = at_item c.kinds_with-kinds.result.now c.loop-i.i _ c.loop-i-test.true (get_or_default c.kinds_with-kinds.result.now c.loop-i.i _ _ c.loop-i-test.true) in
    elim c.if-kind-count.branch [
      | then-kind-count+in_ok-push w ↦
          maker_pushed c.kinds_with-kinds.result.now c.loop-i.i _ c.args.count c.loop-i.makers.items at c.loop-i.invariant w.if-kind-count.true c.if-kind-count.makers.items
          (ap (λ v. v.items) w.makers-is ∙ w.in_ok-push.ensures.items)
      | else-kind-count w ↦
          rw w.makers-is (maker_skipped c.kinds_with-kinds.result.now c.loop-i.i _ c.args.count c.loop-i.makers.items at c.loop-i.invariant w.if-kind-count.false)
    ]

pub returns : goal.returns
returns c branches =
    makers_are branches c.args.now.now c.args.count c.args.atom c.kinds_with-kinds.result.now c.loop-i.makers.items c.loop-i.i c.loop-i-test.false c.kinds_with-kinds.ensures c.loop-i.invariant
