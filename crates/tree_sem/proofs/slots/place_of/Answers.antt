use Rattle.std.proofs.Common.{◌≡◌, ◌+◌, length, slice_get, Some, None, refl, sym, ap, ◌∙◌, arith}
use Rattle.std.proofs.lemmas.Option.{slice_get_past, slice_get_read}
use Rattle.tree_sem.specs.Table.{kids_in}
use Rattle.tree_sem.proofs.PlaceLemmas.{place_more, place_none}
use Rattle.tree_sem.proofs.TableLemmas.{child_there}
use Rattle.tree_sem.proofs.WriteLemmas.{kids_are}
use Rattle.tree_sem.proofs.slots.place_of.Goals as goal

pub loop-level-init : goal.loop-level-init
loop-level-init c = (refl, c.requires.forest.root)

-- the child is missing, so there is no node here, nor further down
pub returns-in-None-clause-place : goal.returns-in-None-clause-place
returns-in-None-clause-place c =
    let slots = c.args.slots.now in
    let step = c.at-step.result in
    let kids : kids_in slots c.loop-level.place ≡ c.deref.result.now = kids_are slots c.loop-level.place c.index.result.now c.index.ensures ∙ sym c.deref.ensures.value in
    let past : slice_get c.deref.result.now step ≡ None = slice_get_past c.deref.result.now step c.in-None.ensures.lookup.3 in
    let here = place_more (kids_in slots) c.args.at.now c.loop-level.level step 0 c.loop-level.place c.at-step.ensures c.loop-level.invariant.0 in
    sym (place_none (kids_in slots) c.args.at.now (c.loop-level.level + 1) c.args.len 0 (omega arith) (here ∙ ap (λ z. slice_get z step) kids ∙ past))

pub loop-level-preserved : goal.loop-level-preserved
loop-level-preserved c =
    let slots = c.args.slots.now in
    let step = c.at-step.result in
    let place = c.loop-level.place in
    let kids : kids_in slots place ≡ c.deref.result.now = kids_are slots place c.index.result.now c.index.ensures ∙ sym c.deref.ensures.value in
    let found = c.in-Some.ensures.lookup in
    let child = slice_get_read c.deref.result.now (length c.deref.result.now) step c.in-Some.child.now refl found.3.0 found.1 in
    let at : slice_get (kids_in slots place) step ≡ Some c.in-Some.child.now = ap (λ z. slice_get z step) kids ∙ child in
    let here = place_more (kids_in slots) c.args.at.now c.loop-level.level step 0 place c.at-step.ensures c.loop-level.invariant.0 in
    (here ∙ at, child_there slots c.requires.forest place step c.in-Some.child.now at)
