use Rattle.std.proofs.Common.{◌≡◌, ◌≤◌, suc, length, take, drop, unwrap_or, Some, false, ◌&&◌, ◌∙◌, refl, sym, ap, subst, true, arith}
use Rattle.std.proofs.lemmas.List.{take_all}
use Rattle.std.proofs.lemmas.Option.{slice_get_read}
use Rattle.tp_base.proofs.Lists.{take_suc}
use Rattle.proof_check.specs.Checks.{are_sound}
use Rattle.proof_check.specs.Firsts.{KnowsOf, first_in}
use Rattle.proof_check.specs.Validity.{in_entry}
use Rattle.proof_check.proofs.EntryLemmas.{after_items, item_sound, sound_one, kept_below, knows_pushed, keeps_pushed, keeps_both, drop_end}
use Rattle.proof_check.proofs.entry_checks.items_hold.Goals as goal

pub returns-then-not-item_holds-clause-test : goal.returns-then-not-item_holds-clause-test
returns-then-not-item_holds-clause-test c =
    let s = c.args.system.now in
    let es = c.args.entries.now in
    let items = c.items-item-items.result.now in
    let i = c.loop-item.item-index in
    let x = c.item-item.result in
    let at = slice_get_read items (length items) i x refl c.loop-item-test.true c.item-item.is in
    let below = kept_below es c.args.n c.args.known.now c.loop-item.known c.requires.below c.loop-item.invariant.others in
    let same = item_sound s es c.loop-item.known c.args.n c.args.entry.now (take i items) x below c.loop-item.invariant.here in
    sym (c.loop-item.invariant.so_far ∙ sound_one s es c.args.n c.args.entry.now items i x at
    ∙ ap (λ b. b && are_sound s es (after_items s es c.args.n c.args.entry.now (take (suc i) items)) (drop (suc i) items)) (sym same ∙ sym c.item_holds.ensures ∙ c.if-not-item_holds.true))

pub returns-then-not-item_holds-clause-others : goal.returns-then-not-item_holds-clause-others
returns-then-not-item_holds-clause-others c = c.loop-item.invariant.others

pub loop-item-preserved : goal.loop-item-preserved
loop-item-preserved c =
    let s = c.args.system.now in
    let es = c.args.entries.now in
    let n = c.args.n in
    let items = c.items-item-items.result.now in
    let i = c.loop-item.item-index in
    let x = c.item-item.result in
    let old = c.loop-item.known in
    let new = c.add.new.self in
    let at = slice_get_read items (length items) i x refl c.loop-item-test.true c.item-item.is in
    let below = kept_below es n c.args.known.now old c.requires.below c.loop-item.invariant.others in
    let same = item_sound s es old n c.args.entry.now (take i items) x below c.loop-item.invariant.here in
    let added = c.in_ok-add.ensures.added ∙ ap (λ d. Some (unwrap_or (first_in old n x.atom) d)) c.is_down.ensures in
    let next : are_sound s es (in_entry s n c.args.entry.now) c.args.entry.now.items
    ≡ are_sound s es (after_items s es n c.args.entry.now (take (suc i) items)) (drop (suc i) items)
    = c.loop-item.invariant.so_far ∙ sound_one s es n c.args.entry.now items i x at
    ∙ ap (λ b. b && are_sound s es (after_items s es n c.args.entry.now (take (suc i) items)) (drop (suc i) items)) (sym same ∙ sym c.item_holds.ensures ∙ c.if-not-item_holds.false) in
    let known : KnowsOf new n (take (suc i) items) = λ a.
    subst (λ h. KnowsOf new n h) (sym (take_suc items i x at)) (knows_pushed old new n (take i items) x c.loop-item.invariant.here added c.in_ok-add.ensures.others) a in
    record {
      so_far = subst (λ m. are_sound s es (in_entry s n c.args.entry.now) c.args.entry.now.items ≡ are_sound s es (after_items s es n c.args.entry.now (take m items)) (drop m items)) {x = suc i} (omega arith) next;
      here = subst (λ m. KnowsOf new n (take m items)) {x = suc i} (omega arith) known;
      others = keeps_both c.args.known.now old new n c.loop-item.invariant.others (keeps_pushed old new n x c.in_ok-add.ensures.others);
    }

pub returns : goal.returns
returns c =
    let s = c.args.system.now in
    let es = c.args.entries.now in
    let n = c.args.n in
    let items = c.items-item-items.result.now in
    let i = c.loop-item.item-index in
    let past : length items ≤ i = omega (arith, c.loop-item-test.false) in
    record {
      test = sym (c.loop-item.invariant.so_far ∙ ap (are_sound s es (after_items s es n c.args.entry.now (take i items))) (drop_end items i past));
      this = λ yes. subst (λ h. KnowsOf c.loop-item.known n h) (take_all i items past ∙ c.items-item-items.ensures) c.loop-item.invariant.here;
      others = c.loop-item.invariant.others;
    }
