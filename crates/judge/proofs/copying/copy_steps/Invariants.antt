use Rattle.std.proofs.Common.{◌≡◌, ◌++◌, length}
use Rattle.judge.proofs.copying.copy_steps.Given as goal

abbrev pub invariant-steps : goal.invariant-steps
invariant-steps l = l.copied.items ++ l.rest ≡ l.steps

abbrev pub decreases-steps : goal.decreases-steps
decreases-steps l = length l.rest
