use Rattle.std.proofs.Common.{[], false, ◌==◌, if◌then◌else◌, ap, sym, subst, ◌∙◌}
use Rattle.class_diagrams.proofs.ReferenceLemmas.{leaf_everywhere}
use Rattle.pushdown_sym.specs.CellRows.{KindRow, diagram_in, IsAt, IsGapOf}
use Rattle.pushdown_sym.proofs.CellRowLemmas.{found_read, missed, put_at, put_new, noted_at, noted_new, noted_more}
use Rattle.pushdown_sym.proofs.cell_rows.Row.replace.Goals as goal

pub invariant_of-self : goal.invariant_of-self
invariant_of-self c =
    let at = subst (λ (row : KindRow). IsAt row c.args.kind c.in-Ok.place) c.deref.ensures.value c.in-Ok.ensures.found in
    noted_at c.self.inside.cells.items c.self.inside.kinds.items c.args.kind c.in-Ok.place at.0 c.args.to at.1 c.self.invariant

pub invariant_of-self-in-Err : goal.invariant_of-self-in-Err
invariant_of-self-in-Err c =
    let gap = subst (λ (row : KindRow). IsGapOf row c.args.kind c.in-Err.place) c.deref.ensures.value c.in-Err.ensures.gap in
    rw (c.in_ok-insert-in-Err.ensures.items, c.in_ok-push-in-Err.ensures.items)
    (noted_new c.self.inside.cells.items c.self.inside.kinds.items c.args.kind c.in-Err.place c.args.to gap c.self.invariant)

pub invariant_of-self-in_err-insert-in-Err : goal.invariant_of-self-in_err-insert-in-Err
invariant_of-self-in_err-insert-in-Err c =
    rw (c.in_err-insert-in-Err.ensures.items, c.in_ok-push-in-Err.ensures.items)
    (noted_more c.self.inside.cells.items c.self.inside.kinds.items c.args.kind c.self.invariant)

pub returns-in-Ok-clause-ok : goal.returns-in-Ok-clause-ok
returns-in-Ok-clause-ok c =
    let at = subst (λ (row : KindRow). IsAt row c.args.kind c.in-Ok.place) c.deref.ensures.value c.in-Ok.ensures.found in
    λ j. put_at c.self.inside.cells.items c.args.kind c.in-Ok.place at.0 c.args.to c.self.invariant.rising at.1 j
    ∙ ap (λ (row : KindRow). if c.args.kind == j then c.args.to else diagram_in row j) c.self.view_is

pub returns-in_ok-insert-in-Err-clause-ok : goal.returns-in_ok-insert-in-Err-clause-ok
returns-in_ok-insert-in-Err-clause-ok c =
    let gap = subst (λ (row : KindRow). IsGapOf row c.args.kind c.in-Err.place) c.deref.ensures.value c.in-Err.ensures.gap in
    λ j. ap (λ (row : KindRow). diagram_in row j) c.in_ok-insert-in-Err.ensures.items
    ∙ put_new c.self.inside.cells.items c.args.kind c.in-Err.place c.args.to gap j
    ∙ ap (λ (row : KindRow). if c.args.kind == j then c.args.to else diagram_in row j) c.self.view_is

pub returns-in-Ok-clause-before : goal.returns-in-Ok-clause-before
returns-in-Ok-clause-before c =
    let at = subst (λ (row : KindRow). IsAt row c.args.kind c.in-Ok.place) c.deref.ensures.value c.in-Ok.ensures.found in
    found_read c.self.inside.cells.items c.args.kind c.in-Ok.place c.index-held.result.now c.self.invariant.rising at c.index-held.ensures
    ∙ ap (λ (row : KindRow). diagram_in row c.args.kind) c.self.view_is

pub returns-in_ok-insert-in-Err-clause-before : goal.returns-in_ok-insert-in-Err-clause-before
returns-in_ok-insert-in-Err-clause-before c =
    leaf_everywhere c.leaf.result false (c.leaf.ensures.inside []) (c.leaf.ensures.tree [])
    ∙ sym (missed c.deref.result.now c.args.kind c.in-Err.place c.in-Err.ensures.gap)
    ∙ ap (λ (row : KindRow). diagram_in row c.args.kind) (c.deref.ensures.value ∙ c.self.view_is)
