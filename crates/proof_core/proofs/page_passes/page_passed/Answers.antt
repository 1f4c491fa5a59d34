use Rattle.std.proofs.Common.{◌≡◌, ◌≤◌, ℕ, List, [], suc, length, drop, refl, subst, ◌∙◌, arith}
use Rattle.std.proofs.lemmas.Option.{slice_get_read}
use Rattle.proof_core.specs.PagePasses.{seen_in}
use Rattle.proof_core.specs.Trails.{progress_of}
use Rattle.proof_check.specs.Unfolding.{Progress, Passed, unfold_page, unfold_entry}
use Rattle.proof_core.proofs.PagePassLemmas.{page_one, page_short}
use Rattle.proof_core.specs.declared.unfolded.TheConstants.{MOST_LISTED}
use Rattle.proof_core.proofs.page_passes.page_passed.Goals as goal

pub item_passed_at-requires-clause-short : goal.item_passed_at-requires-clause-short
item_passed_at-requires-clause-short c =
    let s = c.args.world.now.system.now in
    let es = c.args.world.now.entries.now in
    let items = c.args.items.now in
    let i = c.loop-i.i-index in
    let x = c.i-item.result in
    let at = slice_get_read items (length items) i x refl c.loop-i-test.true c.i-item.is in
    page_short s es c.args.page.now.tree.now items i x (seen_in c.args.page.now.nodes.now c.loop-i.here) (progress_of c.loop-i.trail) MOST_LISTED at
    (subst (λ (r : Progress × (List ℕ → List Passed)). length r.0.steps ≤ MOST_LISTED) c.loop-i.invariant.whole c.requires.short)

pub loop-i-preserved : goal.loop-i-preserved
loop-i-preserved c =
    let s = c.args.world.now.system.now in
    let es = c.args.world.now.entries.now in
    let u = unfold_entry s es (length es) in
    let items = c.args.items.now in
    let nodes = c.args.page.now.nodes.now in
    let i = c.loop-i.i-index in
    let x = c.i-item.result in
    let new = seen_in nodes c.item_passed_at.new.here in
    let after = progress_of c.item_passed_at.new.trail in
    let at = slice_get_read items (length items) i x refl c.loop-i-test.true c.i-item.is in
    let start = unfold_page s u c.args.page.now.tree.now items (λ q. []) (progress_of c.args.trail.now) in
    let next : start ≡ unfold_page s u c.args.page.now.tree.now (drop (suc i) items) new after
    = c.loop-i.invariant.whole
    ∙ page_one s es c.args.page.now.tree.now items i x (seen_in nodes c.loop-i.here) new (progress_of c.loop-i.trail) after at c.in_ok-item_passed_at.ensures.trail c.in_ok-item_passed_at.ensures.here in
    record {
      whole = subst (λ n. start ≡ unfold_page s u c.args.page.now.tree.now (drop n items) new after) {x = suc i} (omega arith) next;
    }
