use Rattle.std.proofs.Common.{◌<◌, List, ℕ, length, get_or, take, Contains, sym, refl, arith, subst}
use Rattle.std.proofs.lemmas.List.{take_all}
use Rattle.closed_page.proofs.SpreadLemmas.{again_none, again_next, again_all, number_there}
use Rattle.closed_page.proofs.spreading.all_notes.Goals as goal

pub loop-i-init : goal.loop-i-init
loop-i-init c = again_none c.args.labels.now.nodes c.args.numbers.now c.args.known.now c.args.index.now c.as_slice-order.result.now c.new-notes.result.items c.new-notes.ensures.items

pub places_for-places-requires : goal.places_for-places-requires
places_for-places-requires c = let less = number_there c.as_slice-order.result.now c.in_ok-all.all.items c.loop-i.i c.loop-i-test.true c.as_slice-order.ensures.value c.in_ok-all.ensures.within in omega (arith, less, c.requires.count)

pub spot-spot-requires : goal.spot-spot-requires
spot-spot-requires c = number_there c.as_slice-order.result.now c.in_ok-all.all.items c.loop-i.i c.loop-i-test.true c.as_slice-order.ensures.value c.in_ok-all.ensures.within

pub note_again-requires : goal.note_again-requires
note_again-requires c = λ p there. c.requires.within _ p (subst (λ (z : List ℕ). Contains z p) c.places_for-places.ensures there)

pub loop-i-preserved : goal.loop-i-preserved
loop-i-preserved c =
    let order = c.as_slice-order.result.now in
    again_next c.args.labels.now.nodes c.args.numbers.now c.args.known.now c.args.index.now order c.loop-i.i (get_or order c.loop-i.i 0) c.spot-spot.result c.loop-i.notes.items c.note_again.new.notes.items c.loop-i-test.true refl
    c.spot-spot.ensures (rw c.places_for-places.ensures at c.in_ok-note_again.ensures) c.loop-i.invariant

pub returns : goal.returns
returns c =
    let order = c.as_slice-order.result.now in
    let same = c.as_slice-order.ensures.value in
    let all = take_all c.loop-i.i order (omega (arith, c.loop-i-test.false)) in
    again_all c.args.labels.now.nodes c.args.numbers.now c.args.known.now c.args.index.now (Contains (take c.loop-i.i order)) (λ i. i < length c.args.labels.now.nodes) c.loop-i.notes.items
    (λ i there. c.in_ok-all.ensures.within i (subst (λ (z : List ℕ). Contains z i) same (subst (λ (z : List ℕ). Contains z i) all there)))
    (λ i less. subst (λ (z : List ℕ). Contains z i) (sym all) (subst (λ (z : List ℕ). Contains z i) (sym same) (c.in_ok-all.ensures.whole i less)))
    c.loop-i.invariant
