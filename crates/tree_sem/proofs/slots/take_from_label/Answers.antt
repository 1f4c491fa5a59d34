use Rattle.std.proofs.Common.{sym, ap, ◌∙◌}
use Rattle.tp_base.specs.Classes.{has_class}
use Rattle.tp_base.specs.Losses.{without_class}
use Rattle.tree_sem.specs.declared.slots.Slot.{Slot}
use Rattle.tree_sem.proofs.WriteLemmas.{label_is, kids_are, parent_is, changed_by_write}
use Rattle.tree_sem.proofs.slots.take_from_label.Goals as goal

pub returns-clause-taken : goal.returns-clause-taken
returns-clause-taken c =
    let slots = c.args.slots.now in
    let place = c.args.place in
    let was = c.index_mut-slot.result.now in
    let at = c.index_mut-slot.ensures.value in
    let slot : Slot = record { label = c.take.new.self; children = was.children; parent = was.parent } in
    changed_by_write slots place slot _ _ _ c.requires (c.take.ensures.taken ∙ ap (without_class c.args.atom) (sym (label_is slots place was at))) (sym (kids_are slots place was at)) (sym (parent_is slots place was at))

pub returns-clause-test : goal.returns-clause-test
returns-clause-test c = c.take.ensures.test ∙ ap (has_class c.args.atom) (sym (label_is c.args.slots.now c.args.place c.index_mut-slot.result.now c.index_mut-slot.ensures.value))
