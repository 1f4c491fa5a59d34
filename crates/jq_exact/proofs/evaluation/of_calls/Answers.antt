use Rattle.std.proofs.Common.{◌+◌, take, get_or, refl}
use Rattle.jq_exact.specs.Together.{numbered, stood}
use Rattle.jq_exact.proofs.NumberLemmas.{stood_next}
use Rattle.jq_exact.proofs.TogetherLemmas.{made_one_more}
use Rattle.jq_exact.proofs.evaluation.of_calls.Goals as goal

pub calls-preserved : goal.calls-preserved
calls-preserved c =
    let sharp = c.args.calls.now.sharp.now in
    let h = c.args.calls.now.handler in
    let calls = c.args.calls.now.calls.now in
    let numbers = c.args.numbers.now in
    let i = c.calls.number-index in
    let call = numbered sharp h calls (get_or numbers i 0) in
    made_one_more c.args.tree.now c.args.first c.calls.marks c.in_ok-marks.marks call call (stood sharp h calls (take i numbers)) (stood sharp h calls (take (i + 1) numbers)) (stood_next sharp h calls numbers i c.calls-test.true) refl
    c.calls.invariant c.in_ok-marks.ensures
