use Rattle.std.proofs.Common.{◌≡◌, ◌<◌}
use Rattle.tree_sem.specs.Trees.{count_of}
use Rattle.jq_sem.specs.Runs.{IsPassed}
use Rattle.jq_sem.proofs.RunLemmas.{IsActed}
use Rattle.jq_sem.proofs.marked_nodes.act_on_copy.Given as goal

abbrev pub invariant-nodes : goal.invariant-nodes
invariant-nodes l = record {
  tree : l.tour.tree ≡ l.tree;
  acted : IsActed l.tree l.action l.marks l.number l.made;
  here : l.number < count_of l.tree → IsPassed l.tree l.number l.tour.at;
}
