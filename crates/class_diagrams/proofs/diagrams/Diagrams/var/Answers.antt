use Rattle.class_diagrams.specs.Trees.{variable}
use Rattle.class_diagrams.proofs.CombinedLemmas.{answer_tree, means_atom}
use Rattle.class_diagrams.proofs.diagrams.Diagrams.var.Goals as goal

pub returns-clause-means : goal.returns-clause-means
returns-clause-means c =
    means_atom c.variable.result c.variable.new.self.branches c.args.atom
    (answer_tree c.args.self.now c.variable.new.self (variable c.args.atom) c.variable.result c.variable.ensures)
