use Rattle.std.proofs.Common.{drop, arith}
use Rattle.jq_sem.specs.WholeRuns.{runs_of}
use Rattle.run_trace.proofs.KnownLemmas.{begins_alike}
use Rattle.run_trace.proofs.shown.begins_with.Goals as goal

pub returns : goal.returns
returns c = λ yes'. (runs_of (drop c.runs.i c.args.steps.now), begins_alike c.args.steps.now c.args.runs.now c.runs.i (omega arith) c.runs.invariant)
