use Rattle.std.proofs.Common.{ℕ, ◌<◌}
use Rattle.guard_simplify.specs.Law.{IsOver}
use Rattle.statement_tests.proofs.simplifying.chain.Given as goal

abbrev pub invariant-compounds : goal.invariant-compounds
invariant-compounds l = (n : ℕ) → l.first < n → l.inner < n → IsOver n l.made
