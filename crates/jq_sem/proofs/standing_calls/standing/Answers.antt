use Rattle.std.proofs.Common.{refl}
use Rattle.jq_sem.proofs.StandingLemmas.{step_push, step_pop, step_none}
use Rattle.jq_sem.proofs.standing_calls.standing.Goals.{in-End+then-is_none, in-End+else-is_none, in_default+in_ok-push}
use Rattle.jq_sem.proofs.standing_calls.standing.Goals as goal

pub calls-preserved : goal.calls-preserved
calls-preserved c = λ root. elim c.match-c.branch [
  | in-End+then-is_none w ↦
      rw (w.emptied-is, w.stack-is)
      (step_none root c.calls.emptied c.args.calls.now c.calls.c-index c.calls.stack.items w.pop.new.self.items w.pop.result _ c.c-item.result c.calls-test.true c.c-item.is w.in-End.is
      w.pop.ensures.items w.pop.ensures.rest w.pop.ensures.variant.1 w.if-is_none.ensures (c.calls.invariant root))
  | in-End+else-is_none w ↦
      rw (w.emptied-is, w.stack-is)
      (step_pop root c.calls.emptied c.args.calls.now c.calls.c-index c.calls.stack.items w.pop.new.self.items w.pop.result c.c-item.result c.calls-test.true c.c-item.is w.in-End.is
      w.pop.ensures.items w.if-is_none.ensures (c.calls.invariant root))
  | in_default+in_ok-push w ↦
      rw (w.emptied-is, w.stack-is)
      (step_push root c.calls.emptied c.args.calls.now c.calls.c-index c.calls.stack.items w.push.new.self.items c.c-item.result _ c.calls-test.true c.c-item.is w.in_default.not-End
      w.in_ok-push.ensures.items refl (c.calls.invariant root))
]
