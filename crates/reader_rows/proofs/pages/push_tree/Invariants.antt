use Rattle.std.proofs.Common.{length, IsSome}
use Rattle.tree_sem.specs.Trees.{node_at}
use Rattle.tree_sem.specs.Order.{rest_of}
use Rattle.reader_rows.proofs.pages.push_tree.Given as goal

abbrev pub invariant-nodes : goal.invariant-nodes
invariant-nodes l = record {
  node : IsSome (node_at l.at l.tree);
}

abbrev pub decreases-nodes : goal.decreases-nodes
decreases-nodes l = length (rest_of l.at l.tree)
