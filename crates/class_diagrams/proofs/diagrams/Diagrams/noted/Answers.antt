use Rattle.class_diagrams.proofs.Remembering.{gives_noted}
use Rattle.class_diagrams.proofs.diagrams.Diagrams.noted.Goals as goal

pub returns : goal.returns
returns c = rw (← c.self.view_is) (gives_noted c.self.inside.table c.self.inside.memo c.self.inside.variables c.args.atom c.of.result c.self.invariant c.of.ensures)
