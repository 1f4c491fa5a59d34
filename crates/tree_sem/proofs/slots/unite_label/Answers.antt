use Rattle.std.proofs.Common.{sym, ap, ◌∙◌}
use Rattle.tp_base.specs.Classes.{union_of}
use Rattle.tree_sem.specs.declared.slots.Slot.{Slot}
use Rattle.tree_sem.proofs.FaultLemmas.{on_ok}
use Rattle.tree_sem.proofs.WriteLemmas.{label_is, kids_are, parent_is, changed_by_write}
use Rattle.tree_sem.proofs.slots.unite_label.Goals as goal

pub returns-clause-ok : goal.returns-clause-ok
returns-clause-ok c =
    let slots = c.args.slots.now in
    let place = c.args.place in
    let was = c.index_mut-slot.result.now in
    let at = c.index_mut-slot.ensures.value in
    let slot : Slot = record { label = c.union.new.self; children = was.children; parent = was.parent } in
    on_ok c.union.result _ _ (λ is. changed_by_write slots place slot _ _ _ c.requires (is ∙ ap ((λ l. union_of l c.args.classes.now)) (sym (label_is slots place was at))) (sym (kids_are slots place was at)) (sym (parent_is slots place was at)))
    c.union.ensures.ok

pub returns-clause-grew : goal.returns-clause-grew
returns-clause-grew c = rw (label_is c.args.slots.now c.args.place c.index_mut-slot.result.now c.index_mut-slot.ensures.value) c.union.ensures.grew
