use Rattle.std.proofs.Common.{◌≡◌, List, Option, None, get_or, sym, subst}
use Rattle.std.proofs.Common.{ℕ}
use Rattle.usage_report.specs.declared.run_traces.RunTrace.{RunTrace}
use Rattle.run_trace.proofs.KnownLemmas.{none_pushed}
use Rattle.run_trace.proofs.together.none_known.Goals as goal

pub loop-item-preserved : goal.loop-item-preserved
loop-item-preserved c =
    subst (λ (z : List (Option RunTrace)). (n : ℕ) → get_or z n None ≡ None) (sym c.in_ok-push.ensures.items) (none_pushed c.loop-item.known.items c.loop-item.invariant)
