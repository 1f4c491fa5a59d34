use Rattle.std.proofs.Common.{◌≡◌, take}
use Rattle.pushdown_sym.specs.CellMap.{place_in}
use Rattle.pushdown_sym.specs.Adding.{paired}
use Rattle.pushdown_sym.proofs.children.with_diagrams.Given as goal

abbrev pub invariant-loop-i : goal.invariant-loop-i
invariant-loop-i l = l.by.items ≡ paired (place_in l.now l.kind) (take l.i l.atoms)
