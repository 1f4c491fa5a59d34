use Rattle.std.proofs.Common.{◌≡◌, length, min, sum_by, take, sym, ◌∙◌, ap, arith}
use Rattle.std.proofs.Math.Seq.{take-length}
use Rattle.proof_check.specs.declared.proofs.PageItem.{PageItem}
use Rattle.proof_check.specs.Kept.{kept_steps}
use Rattle.proof_check.specs.Unfolding.{reason_count}
use Rattle.proof_check.specs.Validity.{MOST_STEPS}
use Rattle.proof_check.proofs.CountLemmas.{length-unfolded}
use Rattle.proof_check.proofs.StepLemmas.{steps_from_kept}
use Rattle.proof_check.proofs.counting.steps.Goals as goal

pub returns : goal.returns
returns c = λ page target.
    let v = c.requires.valid in
    let all = steps_from_kept c.args.system.now v.0 c.args.proof.now v.1 v.2 in
    let items = c.items-i-items.result.now in
    let end : c.loop-i.i-index ≡ length items = omega (arith, c.loop-i-test.false, c.loop-i.auto.i-index-end) in
    let whole : take c.loop-i.i-index items ≡ items = ap (λ n. take n items) end ∙ take-length items in
    c.loop-i.invariant.sum ∙ ap (λ z. min (sum_by (λ (i : PageItem). reason_count c.args.system.now (kept_steps c.args.proof.now.entries) i.item.reason) z) MOST_STEPS) (whole ∙ c.items-i-items.ensures) ∙ all
    ∙ ap (λ n. min n MOST_STEPS) (sym (length-unfolded c.args.system.now c.args.proof.now page target))
