use Rattle.std.proofs.Common.{◌≡◌, take}
use Rattle.jq_sem.specs.WholeRuns.{runs_of}
use Rattle.run_trace.proofs.shown.begins_with.Given as goal

abbrev pub invariant-runs : goal.invariant-runs
invariant-runs l = runs_of (take l.i l.steps) ≡ take l.i l.runs
