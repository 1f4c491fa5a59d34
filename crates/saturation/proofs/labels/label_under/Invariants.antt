use Rattle.std.proofs.Common.{◌≡◌, ◌↔◌, ℕ, true, Contains, take}
use Rattle.std.specs.List.Sorted.{IsStrictlyIncreasing}
use Rattle.class_diagrams.specs.Trees.{eval}
use Rattle.pushdown_sym.specs.CellMap.{trees_in}
use Rattle.saturation.proofs.labels.label_under.Given as goal

abbrev pub invariant-loop-i : goal.invariant-loop-i
invariant-loop-i g l = record {
  members : (a : ℕ) → Contains l.label a ↔ (Contains (take l.i l.atoms) a × (eval (trees_in l.d.branches l.cells l.kind a) (g.L.AtomSet.atoms l.parent) ≡ true));
  rising : IsStrictlyIncreasing l.label;
}
