use Rattle.std.proofs.Common.{◌≤◌, ◌+◌, length}
use Rattle.jq_stmts.specs.Views.{statements_of}
use Rattle.simple_core.specs.declared.system.TheConstants.{MOST_KINDS}
use Rattle.judge.specs.Outcomes.{forest_nodes}
use Rattle.judge_tests.proofs.checks.are_few.Given as goal

abbrev pub invariant-statements : goal.invariant-statements
invariant-statements l = l.left + forest_nodes (statements_of l.stmts) ≤ MOST_KINDS + forest_nodes (statements_of l.rest)

abbrev pub decreases-statements : goal.decreases-statements
decreases-statements l = length l.rest
