use Rattle.std.proofs.Common.{length}
use Rattle.jq_stmts.specs.Views.{statements_of}
use Rattle.jq_stmts.specs.Tables.{AreStatementsOver}
use Rattle.judge_tests.proofs.checks.are_statements.Given as goal

abbrev pub invariant-statements : goal.invariant-statements
invariant-statements l = AreStatementsOver l.n (statements_of l.rest) → AreStatementsOver l.n (statements_of l.stmts)

abbrev pub decreases-statements : goal.decreases-statements
decreases-statements l = length l.rest
