use Rattle.std.proofs.Common.{◌+◌}
use Rattle.class_diagrams.specs.Arena.{tree_at}
use Rattle.class_diagrams.specs.Pairs.{size}
use Rattle.class_diagrams.proofs.diagrams.Diagrams.+combined.Given as goal

abbrev pub decreases-combined : goal.decreases-combined
decreases-combined l = size (tree_at l.self.now.branches l.f) + size (tree_at l.self.now.branches l.g)
