use Rattle.class_diagrams.specs.Arena.{tree_at}
use Rattle.class_diagrams.specs.Pairs.{size}
use Rattle.pushdown_sym.proofs.children.+composed.Given as goal

abbrev pub decreases-composed : goal.decreases-composed
decreases-composed l = size (tree_at l.d.now.branches l.f)
