use Rattle.std.proofs.Common.{ℕ, ◌<◌}
use Rattle.guard_simplify.specs.Law.{IsOver}
use Rattle.exact_tests.proofs.guarding.arounds.Given as goal

abbrev pub invariant-calls : goal.invariant-calls
invariant-calls l = (n : ℕ) → l.atom < n → IsOver n l.made
