use Rattle.std.proofs.Common.{◌≡◌, ◌+◌, length}
use Rattle.std.specs.List.{sum_by}
use Rattle.tree_sem.specs.Trees.{count_of}
use Rattle.judge_tests.proofs.checks.left_by.Given as goal

-- what is left was left by the trees before
abbrev pub invariant-trees : goal.invariant-trees
invariant-trees l = l.left + sum_by count_of l.trees ≡ l.nodes + sum_by count_of l.rest

abbrev pub decreases-trees : goal.decreases-trees
decreases-trees l = length l.rest
