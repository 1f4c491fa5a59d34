use Rattle.std.proofs.Common.{◌≡◌, ◌<◌, ◌^◌, ◌++◌, ℕ, List, [], take, Contains}
use Rattle.std.specs.List.Sorted.{IsStrictlyIncreasing}
use Rattle.tree_sem.specs.Order.{paths_of}
use Rattle.closed_page.specs.Gains.{label_in, starts, paths_at}
use Rattle.closed_page.proofs.page_labels.PageLabels.new.Given as goal

abbrev pub invariant-loop-i : goal.invariant-loop-i
invariant-loop-i l = record {
  labels : l.labels.labels ≡ l.page;
  nodes : l.labels.nodes ≡ paths_of l.page;
  firsts : l.labels.firsts ≡ [] ++ starts l.page (take l.i (paths_at (paths_of l.page) l.order));
  rising : (v : List ℕ) → Contains (take l.i (paths_at (paths_of l.page) l.order)) v → IsStrictlyIncreasing (label_in l.page v);
  few : l.labels.notes < 2 ^ 63;
}
