use Rattle.std.proofs.Common.{◌≡◌}
use Rattle.summary_tests.proofs.tables.answers_as_wanted.Given as goal

abbrev pub invariant-questions : goal.invariant-questions
invariant-questions l = l.sums.system ≡ l.system
