use Rattle.std.proofs.Common.{◌⊎◌, ◌<◌, ℕ, List, ◌∷◌, length, IsSome, Contains}
use Rattle.tree_sem.specs.Nodes.{HasAtom}
use Rattle.tree_sem.specs.Trees.{node_at}
use Rattle.tree_sem.specs.Order.{rest_of}
use Rattle.judge_tests.proofs.checks.is_tree.Given as goal

abbrev pub invariant-nodes : goal.invariant-nodes
invariant-nodes l = record {
  node : IsSome (node_at l.at l.tree);
  left : (v : List ℕ) (a : ℕ) → HasAtom l.tree v a → (a < l.n) ⊎ Contains (l.at ∷ rest_of l.at l.tree) v;
}

abbrev pub decreases-nodes : goal.decreases-nodes
decreases-nodes l = length (rest_of l.at l.tree)
