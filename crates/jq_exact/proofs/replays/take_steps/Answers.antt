use Rattle.std.proofs.Common.{◌≡◌, ◌<◌, length, Some, slice_get, refl, arith, add-one}
use Rattle.std.proofs.lemmas.Option.{slice_get_read}
use Rattle.tree_sem.proofs.SeriesLemmas.{taken_more}
use Rattle.jq_stmts.specs.SharpViews.{exacts_of}
use Rattle.jq_exact.specs.Exact.{IsLegalExactly, after_exact_step}
use Rattle.jq_exact.proofs.replays.take_steps.Goals as goal

pub loop-number-preserved : goal.loop-number-preserved
loop-number-preserved c =
    let steps = c.args.steps.now in
    let i = c.loop-number.number in
    let step = c.index-steps-number.result in
    let within : i < length steps = omega arith in
    let at : slice_get steps i ≡ Some step = slice_get_read steps (length steps) i step refl within c.index-steps-number.is in
    let before = c.loop-number.invariant in
    let more = taken_more IsLegalExactly after_exact_step (exacts_of c.args.stmts.now) steps i step c.args.tree.now c.loop-number.tree c.take_step.new.tree at before.taken before.tree c.in_ok-take_step.ensures in
    rw add-one (record { taken = more.0; tree = more.1 })
