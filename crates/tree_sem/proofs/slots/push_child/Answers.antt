use Rattle.std.proofs.Common.{◌≡◌, ◌<◌, Some, refl, sym, ◌∙◌, subst, arith}
use Rattle.std.specs.Vec.{vec_len, vec_capacity}
use Rattle.tree_sem.specs.declared.slots.Slot.{Slot}
use Rattle.tree_sem.proofs.WriteLemmas.{is_there, back_there, grown_by_writes}
use Rattle.tree_sem.proofs.slots.push_child.Goals as goal

pub index_mut-slot-requires-2 : goal.index_mut-slot-requires-2
index_mut-slot-requires-2 c =
    let was = c.index_mut-slot.result.now in
    let first : Slot = record { label = was.label; children = c.reserve.new.self; parent = was.parent } in
    let added = c.in_ok-child.ensures in
    is_there c.insert.new.self c.args.place first
    (back_there c.args.slots.now c.insert.new.self c.args.place c.in_ok-child.child was first c.childless-node.result c.index_mut-slot.ensures.value added.was_vacant added.updates)

-- the list that is read again is that which got room
pub push_reserved-requires : goal.push_reserved-requires
push_reserved-requires c =
    let was = c.index_mut-slot.result.now in
    let again = c.index_mut-slot-2.result.now in
    let first : Slot = record { label = was.label; children = c.reserve.new.self; parent = was.parent } in
    let added = c.in_ok-child.ensures in
    let there = back_there c.args.slots.now c.insert.new.self c.args.place c.in_ok-child.child was first c.childless-node.result c.index_mut-slot.ensures.value added.was_vacant added.updates in
    let both : Some first ≡ Some again = sym there ∙ c.index_mut-slot-2.ensures.value in
    let same : first ≡ again = cc in
    let room : vec_len first.children < vec_capacity first.children = omega (arith, c.in_ok-reserve.ensures.ok) in
    subst (λ (s : Slot). vec_len s.children < vec_capacity s.children) same room

pub returns-clause-ok : goal.returns-clause-ok
returns-clause-ok c =
    let old = c.args.slots.now in
    let was = c.index_mut-slot.result.now in
    let again = c.index_mut-slot-2.result.now in
    let first : Slot = record { label = was.label; children = c.reserve.new.self; parent = was.parent } in
    let last : Slot = record { label = again.label; children = c.push_reserved.new.self; parent = again.parent } in
    let added = c.in_ok-child.ensures in
    grown_by_writes old c.insert.new.self c.args.place c.in_ok-child.child was first c.childless-node.result again last c.args.label c.index_mut-slot.ensures.value refl c.in_ok-reserve.ensures.items refl
    added.was_vacant added.updates added.len c.childless-node.ensures.label c.childless-node.ensures.children c.childless-node.ensures.parent c.index_mut-slot-2.ensures.value refl c.push_reserved.ensures.items refl
