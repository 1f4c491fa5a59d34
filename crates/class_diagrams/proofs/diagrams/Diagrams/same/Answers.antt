use Rattle.class_diagrams.proofs.ArenaLemmas.{same_meaning}
use Rattle.class_diagrams.proofs.diagrams.Diagrams.same.Goals as goal

pub returns-clause-agree : goal.returns-clause-agree
returns-clause-agree c = rw (← c.self.view_is)
    (same_meaning c.self.inside.table c.args.f c.args.g c.same.result c.self.invariant.arena (rw (← c.self.view_is) at c.requires.first) (rw (← c.self.view_is) at c.requires.second) c.same.ensures)
