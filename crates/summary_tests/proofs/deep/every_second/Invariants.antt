use Rattle.class_diagrams.specs.References.{Reference}
use Rattle.class_diagrams.specs.Arena.{IsIn}
use Rattle.summary_tests.proofs.deep.every_second.Given as goal

abbrev pub invariant-atoms : goal.invariant-atoms
invariant-atoms l = IsIn l.d.branches l.sofar × ((p : Reference) → IsIn l.fn.d.branches p → IsIn l.d.branches p)

abbrev pub decreases-atoms : goal.decreases-atoms
decreases-atoms l = l.atom
