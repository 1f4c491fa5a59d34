use Rattle.std.proofs.Common.{length}
use Rattle.jq_stmts.specs.Tables.{AreTreesOver}
use Rattle.judge_tests.proofs.checks.are_trees.Given as goal

abbrev pub invariant-trees : goal.invariant-trees
invariant-trees l = AreTreesOver l.n l.rest → AreTreesOver l.n l.trees

abbrev pub decreases-trees : goal.decreases-trees
decreases-trees l = length l.rest
