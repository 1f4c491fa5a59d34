use Rattle.std.proofs.Common.{length, All}
use Rattle.guard_simplify.specs.Law.{IsOver}
use Rattle.judge_tests.proofs.more.guards_of.Given as goal

abbrev pub invariant-classes : goal.invariant-classes
invariant-classes l = All (IsOver (length l.atoms)) l.guards.items
