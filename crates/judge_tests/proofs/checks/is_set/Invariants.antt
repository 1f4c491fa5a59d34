use Rattle.std.proofs.Common.{◌-◌, length, take}
use Rattle.jq_stmts.specs.Tables.{AreAtoms}
use Rattle.judge_tests.proofs.checks.is_set.Given as goal

abbrev pub invariant-atoms : goal.invariant-atoms
invariant-atoms l = AreAtoms l.n (take l.i l.set)

abbrev pub decreases-atoms : goal.decreases-atoms
decreases-atoms l = length l.set - l.i
