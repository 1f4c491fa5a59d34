use Rattle.std.proofs.Common.{List, take}
use Rattle.class_diagrams.specs.Trees.{Tree}
use Rattle.row_index.specs.Rows.{row_of}
use Rattle.pushdown_sym.specs.CellMap.{trees_in}
use Rattle.saturation.specs.Waking.{AreSeen}
use Rattle.saturation.proofs.parents.add_seen.Given as goal

abbrev pub invariant-loop-i : goal.invariant-loop-i
invariant-loop-i l = (branches : List Tree) → AreSeen (trees_in branches l.now) l.marks (take l.i l.atoms) (row_of l.ends) l.fn.todo.items l.todo.items
