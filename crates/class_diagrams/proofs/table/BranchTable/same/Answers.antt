use Rattle.class_diagrams.proofs.ArenaLemmas.{same_trees}
use Rattle.class_diagrams.proofs.table.BranchTable.same.Goals as goal

pub returns : goal.returns
returns c = same_trees c.args.self.now c.args.f c.args.g c.is.result c.requires.arena c.requires.first c.requires.second c.is.ensures
