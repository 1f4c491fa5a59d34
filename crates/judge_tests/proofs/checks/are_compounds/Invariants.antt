use Rattle.std.proofs.Common.{length}
use Rattle.jq_stmts.specs.Views.{atoms_of}
use Rattle.jq_stmts.specs.Tables.{AreCompoundsOver}
use Rattle.judge_tests.proofs.checks.are_compounds.Given as goal

abbrev pub invariant-compounds : goal.invariant-compounds
invariant-compounds l = AreCompoundsOver l.n (atoms_of l.rest) → AreCompoundsOver l.n (atoms_of l.compounds)

abbrev pub decreases-compounds : goal.decreases-compounds
decreases-compounds l = length l.rest
