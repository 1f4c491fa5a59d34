use Rattle.std.proofs.Common.{refl}
use Rattle.tree_sem.proofs.BuilderLemmas.{current}
use Rattle.tree_sem.proofs.tree_builder.TreeBuilder.path.Goals as goal

pub returns-clause-there : goal.returns-clause-there
returns-clause-there c = rw (← c.self.view_is, current c.self.inside.slots c.self.inside.at c.self.inside.place c.self.invariant) refl
