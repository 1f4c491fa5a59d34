use Rattle.std.proofs.Common.{List, take}
use Rattle.class_diagrams.specs.Trees.{Tree}
use Rattle.pushdown_sym.specs.CellMap.{trees_in}
use Rattle.saturation.specs.Waking.{AreAbove}
use Rattle.saturation.proofs.parents.add_above.Given as goal

abbrev pub invariant-loop-pair : goal.invariant-loop-pair
invariant-loop-pair l = (branches : List Tree) → AreAbove (trees_in branches l.now) l.count (take l.pair-index l.pairs) l.fn.todo.items l.todo.items
