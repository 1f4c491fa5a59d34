use Rattle.std.proofs.Common.{rules, arith}
use Rattle.jq_sem.proofs.SetLemmas.{on_ok}
use Rattle.jq_sem.proofs.TogetherLemmas.{all_left, one_handled, none_handled}
use Rattle.jq_sem.proofs.evaluation.selected.Goals as goal

pub handlers-init : goal.handlers-init
handlers-init c = all_left c.args.tree.now c.args.s.now c.items-rest.result.now c.items-rest.ensures

pub handlers-preserved : goal.handlers-preserved
handlers-preserved c =
    one_handled c.args.tree.now c.args.s.now c.handlers.this c.handlers.rest.now c.in-Some.inner.now c.in-Some.handler.now c.in_ok-marks.marks c.in-Some.ensures.cases.0 c.in_ok-marks.ensures c.handlers.invariant

pub returns : goal.returns
returns c =
    on_ok c.of_chain-2.result _ _ (λ m made. none_handled c.args.tree.now c.args.s.now c.handlers.this c.handlers.rest.now m (first_of (omega arith, search rules)) c.handlers.invariant made) c.of_chain-2.ensures
