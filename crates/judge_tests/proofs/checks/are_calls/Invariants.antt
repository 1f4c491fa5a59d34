use Rattle.std.proofs.Common.{map, length}
use Rattle.jq_stmts.specs.Views.{call_of}
use Rattle.jq_stmts.specs.Tables.{AreCallsOver}
use Rattle.judge_tests.proofs.checks.are_calls.Given as goal

abbrev pub invariant-calls : goal.invariant-calls
invariant-calls l = AreCallsOver l.n (map call_of l.rest) → AreCallsOver l.n (map call_of l.calls)

abbrev pub decreases-calls : goal.decreases-calls
decreases-calls l = length l.rest
