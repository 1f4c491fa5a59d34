use Rattle.class_diagrams.specs.Arena.{tree_at}
use Rattle.class_diagrams.specs.Trees.{tor}
use Rattle.class_diagrams.proofs.CombinedLemmas.{answer_tree, means_either}
use Rattle.class_diagrams.proofs.diagrams.Diagrams.or.Goals as goal

pub returns-clause-means : goal.returns-clause-means
returns-clause-means c =
    means_either c.operated.result c.operated.new.self.branches (tree_at c.args.self.now.branches c.args.f) (tree_at c.args.self.now.branches c.args.g)
    (answer_tree c.args.self.now c.operated.new.self (tor (tree_at c.args.self.now.branches c.args.f) (tree_at c.args.self.now.branches c.args.g)) c.operated.result c.operated.ensures)
