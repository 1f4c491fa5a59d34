use Rattle.run_trace.specs.Known.{IsBranch}
use Rattle.run_trace.proofs.branches.run_up_to.Given as goal

abbrev pub invariant-runs : goal.invariant-runs
invariant-runs l = IsBranch l.task l.branch
