use Rattle.std.proofs.Common.{◌≡◌, ◌++◌, length}
use Rattle.tree_sem.specs.Order.{paths_from, rest_of}
use Rattle.guard_simplify.proofs.forest_nodes.paths_below.Given as goal

abbrev pub invariant-nodes : goal.invariant-nodes
invariant-nodes l = record {
  tree : l.tour.tree ≡ l.tree;
  so_far : l.paths.items ++ rest_of l.tour.at l.tour.tree ≡ paths_from 0 l.tree.below;
}

abbrev pub decreases-nodes : goal.decreases-nodes
decreases-nodes l = length (rest_of l.tour.at l.tour.tree)
