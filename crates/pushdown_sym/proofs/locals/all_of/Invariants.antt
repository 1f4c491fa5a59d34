use Rattle.std.proofs.Common.{true, take, Ok}
use Rattle.class_diagrams.specs.Trees.{leaf}
use Rattle.diagram_ops.specs.Steps.{Calculates}
use Rattle.pushdown_sym.specs.CellMap.{trees_in}
use Rattle.pushdown_sym.specs.Terms.{conjunction, conjunctions}
use Rattle.pushdown_sym.proofs.locals.all_of.Given as goal

abbrev pub invariant-loop-i : goal.invariant-loop-i
invariant-loop-i l = Calculates l.fn.d l.d (conjunctions (trees_in l.fn.d.branches l.now) l.kind (leaf true) l.needs)
    (conjunction (trees_in l.fn.d.branches l.now) l.kind (leaf true) (take l.i l.needs)) (Ok l.sofar)
