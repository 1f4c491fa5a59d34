use Rattle.std.proofs.Common.{◌≡◌, ◌++◌, take}
use Rattle.proof_needs.proofs.spots.add_steps.Given as goal

abbrev pub invariant-loop-step : goal.invariant-loop-step
invariant-loop-step l = l.path ≡ l.initial.path ++ take l.step-index l.steps
