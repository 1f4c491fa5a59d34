use Rattle.std.proofs.Common.{◌≤◌, length, All}
use Rattle.jq_stmts.specs.SharpViews.{exacts_of}
use Rattle.jq_exact.specs.Room.{added_by}
use Rattle.exact_tests.proofs.checks.are_small.Given as goal

abbrev pub invariant-statements : goal.invariant-statements
invariant-statements l = All (λ s. added_by s.action ≤ 0) (exacts_of l.rest) → All (λ s. added_by s.action ≤ 0) (exacts_of l.stmts)

abbrev pub decreases-statements : goal.decreases-statements
decreases-statements l = length l.rest
