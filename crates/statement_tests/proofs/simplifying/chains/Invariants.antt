use Rattle.std.proofs.Common.{length, All}
use Rattle.guard_simplify.specs.Law.{IsOver}
use Rattle.statement_tests.proofs.simplifying.chains.Given as goal

abbrev pub invariant-chains : goal.invariant-chains
invariant-chains l = All (IsOver (length l.atoms)) l.guards.items
