use Rattle.std.proofs.Common.{◌≡◌}
use Rattle.class_diagrams.specs.Trees.{eval}
use Rattle.class_diagrams.specs.Arena.{tree_at, IsIn}
use Rattle.class_diagrams.specs.Pairs.{size}
use Rattle.class_diagrams.proofs.diagrams.Diagrams.eval_marked.Given as goal

abbrev pub invariant-loop-atom : goal.invariant-loop-atom
invariant-loop-atom l = record {
  inside : IsIn l.self-inside.table.branches l.at;
  same : eval (tree_at l.self-inside.table.branches l.at) l.marks ≡ eval (tree_at l.self-inside.table.branches l.fn.f) l.marks;
}

abbrev pub decreases-loop-atom : goal.decreases-loop-atom
decreases-loop-atom l = size (tree_at l.self-inside.table.branches l.at)
