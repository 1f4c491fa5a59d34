use Rattle.std.proofs.Common.{List, ℕ, ◌≢◌, Contains, false, sym, subst}
use Rattle.class_diagrams.specs.References.{leaf_reference}
use Rattle.pushdown_sym.specs.CellRows.{KindRow, diagram_in}
use Rattle.pushdown_sym.proofs.CellRowLemmas.{listed}
use Rattle.pushdown_sym.proofs.cell_rows.Row.kinds.Goals as goal

pub returns : goal.returns
returns c = λ j some.
    subst (λ (ks : List ℕ). Contains ks j) (sym c.deref.ensures.value)
    (c.self.invariant.whole j (listed c.self.inside.cells.items j (subst (λ (row : KindRow). diagram_in row j ≢ leaf_reference false) (sym c.self.view_is) some)))
