use Rattle.std.proofs.Common.{take}
use Rattle.std.specs.List.{flat_map}
use Rattle.pushdown_sym.specs.CellMap.{trees_in}
use Rattle.pushdown_sym.specs.Adding.{of_local}
use Rattle.pushdown_sym.specs.Givers.{of_place}
use Rattle.pushdown_sym.proofs.AddLemmas.{IsAdding}
use Rattle.pushdown_sym.proofs.locals.add_locals.Given as goal

abbrev pub invariant-loop-i : goal.invariant-loop-i
invariant-loop-i l = IsAdding l.fn.d l.d l.fn.start (flat_map (of_place (of_local (trees_in l.fn.d.branches l.now) l.kind l.atom) l.rules) l.places)
    (flat_map (of_place (of_local (trees_in l.fn.d.branches l.now) l.kind l.atom) l.rules) (take l.i l.places)) l.sofar
