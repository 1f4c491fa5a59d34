use Rattle.std.proofs.Common.{◌≡◌, take}
use Rattle.tree_sem.specs.Series.{CanTake, tree_before}
use Rattle.jq_stmts.specs.SharpViews.{exacts_of}
use Rattle.jq_exact.specs.Exact.{IsLegalExactly, after_exact_step}
use Rattle.jq_exact.proofs.replays.take_steps.Given as goal

abbrev pub invariant-loop-number : goal.invariant-loop-number
invariant-loop-number l = record {
  taken : CanTake IsLegalExactly after_exact_step l.initial.tree (exacts_of l.stmts) (take l.number l.steps);
  tree : l.tree ≡ tree_before after_exact_step l.initial.tree (exacts_of l.stmts) l.steps l.number;
}
