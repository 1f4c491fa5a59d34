use Rattle.std.proofs.Common.{◌≡◌, ◌<◌}
use Rattle.tree_sem.specs.Trees.{count_of}
use Rattle.jq_sem.specs.Runs.{IsPassed}
use Rattle.run_trace.proofs.MatchLemmas.{NoneMarked}
use Rattle.run_trace.proofs.matches.first_marked.Given as goal

abbrev pub invariant-nodes : goal.invariant-nodes
invariant-nodes l = record {
  tree : l.tour.tree ≡ l.tree;
  none : NoneMarked l.marks l.number;
  here : l.number < count_of l.tree → IsPassed l.tree l.number l.tour.at;
}
