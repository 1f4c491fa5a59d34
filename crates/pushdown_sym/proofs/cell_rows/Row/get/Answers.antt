use Rattle.std.proofs.Common.{[], false, ap, sym, subst, ◌∙◌}
use Rattle.class_diagrams.proofs.ReferenceLemmas.{leaf_everywhere}
use Rattle.pushdown_sym.specs.CellRows.{KindRow, diagram_in, IsAt}
use Rattle.pushdown_sym.proofs.CellRowLemmas.{found_read, missed}
use Rattle.pushdown_sym.proofs.cell_rows.Row.get.Goals as goal

pub returns-in-Ok : goal.returns-in-Ok
returns-in-Ok c =
    let at = subst (λ (row : KindRow). IsAt row c.args.kind c.in-Ok.place) c.deref.ensures.value c.in-Ok.ensures.found in
    found_read c.self.inside.cells.items c.args.kind c.in-Ok.place c.index.result.now c.self.invariant.rising at c.index.ensures
    ∙ ap (λ (row : KindRow). diagram_in row c.args.kind) c.self.view_is

pub returns-in-Err : goal.returns-in-Err
returns-in-Err c =
    leaf_everywhere c.leaf.result false (c.leaf.ensures.inside []) (c.leaf.ensures.tree [])
    ∙ sym (missed c.deref.result.now c.args.kind c.in-Err.field-0 c.in-Err.ensures.gap)
    ∙ ap (λ (row : KindRow). diagram_in row c.args.kind) (c.deref.ensures.value ∙ c.self.view_is)
