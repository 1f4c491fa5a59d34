use Rattle.std.proofs.Common.{◌∙◌, ap, sym}
use Rattle.jq_stmts.specs.Views.{call_of}
use Rattle.jq_sem.proofs.StandingLemmas.{last_first-next}
use Rattle.rule_translate.specs.Translation as spec
use Rattle.rule_translate.proofs.chains.of_calls.Goals as goal

pub calls-preserved : goal.calls-preserved
calls-preserved c = λ h root is.
    c.in_ok-guard.ensures
    ∙ ap (spec.of_call (call_of c.c-item.result.now)) (c.calls.invariant h root is)
    ∙ ap (spec.of_calls h root) (sym (last_first-next c.args.calls.now c.calls.c-index c.c-item.result c.calls-test.true c.c-item.is))
