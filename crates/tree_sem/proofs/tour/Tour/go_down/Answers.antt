use Rattle.std.proofs.Common.{◌≡◌, [], ◌∷◌, ◌++◌, length, None, slice_get, refl, sym, ap, ◌∙◌, subst}
use Rattle.std.proofs.lemmas.Option.{slice_get_past, slice_get_read}
use Rattle.tree_sem.specs.Arena.{place_from}
use Rattle.tree_sem.specs.Growing.{GrowingTree}
use Rattle.tree_sem.specs.Nodes.{IsNode}
use Rattle.tree_sem.specs.Table.{kids_in, tree_in}
use Rattle.tree_sem.specs.Trees.{node_at}
use Rattle.tree_sem.proofs.BuilderLemmas.{child_place}
use Rattle.tree_sem.proofs.TableLemmas.{no_node, not_there, place_there}
use Rattle.tree_sem.proofs.WriteLemmas.{kids_are}
use Rattle.tree_sem.proofs.tour.Tour.go_down.Goals as goal

pub index-requires : goal.index-requires
index-requires c = place_there c.self.inside.slots.now c.self.invariant.table.forest c.self.inside.at c.self.inside.place c.self.invariant.here

-- the child is there
pub unreachable-requires : goal.unreachable-requires
unreachable-requires c =
    let slots = c.self.inside.slots.now in
    let v = c.self.inside.at in
    let step = c.args.step in
    let kids : kids_in slots c.self.inside.place ≡ c.deref.result.now = kids_are slots c.self.inside.place c.index.result.now c.index.ensures ∙ sym c.deref.ensures.value in
    let past : slice_get c.deref.result.now step ≡ None = slice_get_past c.deref.result.now step c.in_default.ensures.lookup.3 in
    let none = child_place slots v c.self.inside.place c.self.invariant step ∙ ap (λ z. slice_get z step) kids ∙ past in
    let there = subst (λ (g : GrowingTree). IsNode g.tree (g.at ++ step ∷ [])) (sym c.self.view_is) c.requires in
    not_there (node_at (v ++ step ∷ []) (tree_in slots 0)) (no_node slots c.self.invariant.table.forest (v ++ step ∷ []) (sym none)) there

pub invariant_of-self-2 : goal.invariant_of-self-2
invariant_of-self-2 c =
    let slots = c.self.inside.slots.now in
    let v = c.self.inside.at in
    let step = c.args.step in
    let kids : kids_in slots c.self.inside.place ≡ c.deref.result.now = kids_are slots c.self.inside.place c.index.result.now c.index.ensures ∙ sym c.deref.ensures.value in
    let found = c.in-Some.ensures.lookup in
    let child = slice_get_read c.deref.result.now (length c.deref.result.now) step c.in-Some.child.now refl found.3.0 found.1 in
    record {
      table = c.self.invariant.table;
      here = ap (place_from (kids_in slots) 0) c.in_ok-push.ensures.ok ∙ child_place slots v c.self.inside.place c.self.invariant step ∙ ap (λ z. slice_get z step) kids ∙ child;
    }
