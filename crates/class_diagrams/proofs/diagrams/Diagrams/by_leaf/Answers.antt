use Rattle.class_diagrams.proofs.CombinedLemmas.{gives_leaf}
use Rattle.class_diagrams.proofs.diagrams.Diagrams.by_leaf.Goals as goal

pub returns-in-WithLeaf : goal.returns-in-WithLeaf
returns-in-WithLeaf c = rw (← c.self.view_is)
    (gives_leaf c.args.operation c.self.inside.table c.args.f c.args.g c.self.invariant.arena c.in-WithLeaf.value c.in-WithLeaf.other c.with_leaf.result c.in-WithLeaf.ensures c.with_leaf.ensures)
