use Rattle.std.proofs.Common.{◌≡◌, [], ◌∷◌, ◌++◌, length, None, slice_get, refl, sym, ap, ◌∙◌}
use Rattle.std.proofs.lemmas.Option.{slice_get_past, slice_get_read}
use Rattle.tree_sem.specs.Arena.{place_from}
use Rattle.tree_sem.specs.Table.{kids_in}
use Rattle.tree_sem.proofs.BuilderLemmas.{child_place}
use Rattle.tree_sem.proofs.FaultLemmas.{memory_fault, no_fault}
use Rattle.tree_sem.proofs.TableLemmas.{no_node, node_there, place_there}
use Rattle.tree_sem.proofs.WriteLemmas.{kids_are}
use Rattle.tree_sem.proofs.tree_builder.TreeBuilder.go_down.Goals as goal

pub index-requires : goal.index-requires
index-requires c = place_there c.self.inside.slots c.self.invariant.table.forest c.self.inside.at c.self.inside.place c.self.invariant.here

-- no child has the number
pub returns-in_default-clause-no_such_node : goal.returns-in_default-clause-no_such_node
returns-in_default-clause-no_such_node c =
    let slots = c.self.inside.slots in
    let v = c.self.inside.at in
    let step = c.args.step in
    let kids : kids_in slots c.self.inside.place ≡ c.deref.result.now = kids_are slots c.self.inside.place c.index.result.now c.index.ensures ∙ sym c.deref.ensures.value in
    let past : slice_get c.deref.result.now step ≡ None = slice_get_past c.deref.result.now step c.in_default.ensures.lookup.3 in
    let none = child_place slots v c.self.inside.place c.self.invariant step ∙ ap (λ z. slice_get z step) kids ∙ past in
    rw (← c.self.view_is, no_node slots c.self.invariant.table.forest (v ++ step ∷ []) (sym none)) (λ _. refl, λ _. refl)

-- a child has it
pub returns-in_err-push-clause-no_such_node : goal.returns-in_err-push-clause-no_such_node
returns-in_err-push-clause-no_such_node c =
    let slots = c.self.inside.slots in
    let v = c.self.inside.at in
    let step = c.args.step in
    let kids : kids_in slots c.self.inside.place ≡ c.deref.result.now = kids_are slots c.self.inside.place c.index.result.now c.index.ensures ∙ sym c.deref.ensures.value in
    let found = c.in-Some.ensures.lookup in
    let child = slice_get_read c.deref.result.now (length c.deref.result.now) step c.in-Some.child.now refl found.3.0 found.1 in
    let at = child_place slots v c.self.inside.place c.self.invariant step ∙ ap (λ z. slice_get z step) kids ∙ child in
    let there = node_there slots c.self.invariant.table.forest (v ++ step ∷ []) c.in-Some.child.now (sym at) in
    rw (← c.self.view_is) (memory_fault _ _ c.from_residual.result there c.from_residual.ensures.1)

pub invariant_of-self-2 : goal.invariant_of-self-2
invariant_of-self-2 c =
    let slots = c.self.inside.slots in
    let v = c.self.inside.at in
    let step = c.args.step in
    let kids : kids_in slots c.self.inside.place ≡ c.deref.result.now = kids_are slots c.self.inside.place c.index.result.now c.index.ensures ∙ sym c.deref.ensures.value in
    let found = c.in-Some.ensures.lookup in
    let child = slice_get_read c.deref.result.now (length c.deref.result.now) step c.in-Some.child.now refl found.3.0 found.1 in
    record {
      table = c.self.invariant.table;
      here = ap (place_from (kids_in slots) 0) c.in_ok-push.ensures.ok ∙ child_place slots v c.self.inside.place c.self.invariant step ∙ ap (λ z. slice_get z step) kids ∙ child;
    }

pub returns-clause-no_such_node : goal.returns-clause-no_such_node
returns-clause-no_such_node c =
    let slots = c.self.inside.slots in
    let v = c.self.inside.at in
    let step = c.args.step in
    let kids : kids_in slots c.self.inside.place ≡ c.deref.result.now = kids_are slots c.self.inside.place c.index.result.now c.index.ensures ∙ sym c.deref.ensures.value in
    let found = c.in-Some.ensures.lookup in
    let child = slice_get_read c.deref.result.now (length c.deref.result.now) step c.in-Some.child.now refl found.3.0 found.1 in
    let at = child_place slots v c.self.inside.place c.self.invariant step ∙ ap (λ z. slice_get z step) kids ∙ child in
    let there = node_there slots c.self.invariant.table.forest (v ++ step ∷ []) c.in-Some.child.now (sym at) in
    rw (← c.self.view_is) (no_fault _ _ tt there)
