use Rattle.std.proofs.Common.{◌+◌, [], take, arith}
use Rattle.jq_sem.specs.Standing.{last_first}
use Rattle.jq_stmts.specs.Views.{call_of}
use Rattle.jq_sem.proofs.StandingLemmas.{last_first-next, last_first-all}
use Rattle.jq_sem.proofs.TogetherLemmas.{made_one_more, all_made}
use Rattle.jq_sem.proofs.evaluation.of_calls.Goals as goal

pub calls-init : goal.calls-init
calls-init c = λ v. (λ m. m, λ m. m)

pub calls-preserved : goal.calls-preserved
calls-preserved c =
    made_one_more c.args.tree.now c.args.first c.calls.marks c.in_ok-marks.marks (call_of c.call-item.result.now) (last_first (take c.calls.call-index c.args.calls.now) [])
    (last_first (take (c.calls.call-index + 1) c.args.calls.now) []) (last_first-next c.args.calls.now c.calls.call-index c.call-item.result c.calls-test.true c.call-item.is) c.calls.invariant c.in_ok-marks.ensures

pub returns : goal.returns
returns c = all_made c.args.tree.now c.args.first c.calls.marks (last_first (take c.calls.call-index c.args.calls.now) []) (last_first c.args.calls.now []) (last_first-all c.args.calls.now c.calls.call-index (omega arith)) c.calls.invariant
