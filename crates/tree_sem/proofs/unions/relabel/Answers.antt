use Rattle.std.proofs.Common.{◌≡◌, Some, None, refl, sym, ◌∙◌, subst}
use Rattle.slab.specs.Slab.{with_value}
use Rattle.tree_sem.specs.declared.slots.Slot.{Slot}
use Rattle.tree_sem.specs.Table.{kids_in, parent_in, IsChanged}
use Rattle.tree_sem.proofs.TableLemmas.{no_node, not_there, walked}
use Rattle.tree_sem.proofs.WriteLemmas.{kids_are, parent_is, changed_by_write}
use Rattle.tree_sem.proofs.unions.relabel.Goals as goal

pub unreachable-requires : goal.unreachable-requires
unreachable-requires c =
    let old = c.args.slots.now in
    let at = walked old c.args.at.now c.len.result None c.len.ensures c.in_default.ensures.place in
    not_there _ (no_node old c.requires.forest c.args.at.now at) c.requires.is_node

pub returns : goal.returns
returns c = λ place there.
    let old = c.args.slots.now in
    let was = c.index_mut-slot.result.now in
    let found = c.in-Some.place in
    let slot : Slot = record { label = c.args.label; children = was.children; parent = was.parent } in
    let at = walked old c.args.at.now c.len.result (Some found) c.len.ensures c.in-Some.ensures.place in
    let both : Some found ≡ Some place = at ∙ sym there in
    let same : found ≡ place = cc in
    let h = c.index_mut-slot.ensures.value in
    subst (λ i. IsChanged old (with_value old found slot) i c.args.label (kids_in old i) (parent_in old i)) same
    (changed_by_write old found slot c.args.label (kids_in old found) (parent_in old found) c.in-Some.ensures.there refl (sym (kids_are old found was h)) (sym (parent_is old found was h)))
