use Rattle.std.proofs.Common.{◌≤◌, ℕ, List, [], length, sym, ap, subst, ◌∙◌}
use Rattle.proof_check.specs.declared.proofs.PageItem.{PageItem}
use Rattle.proof_core.specs.Trails.{progress_of, no_progress}
use Rattle.proof_check.specs.Unfolding.{Progress, Passed, end_for, unfold_page, unfold_entry}
use Rattle.proof_core.specs.declared.unfolded.TheConstants.{MOST_LISTED}
use Rattle.proof_core.proofs.unfolded.unfold_all.Goals as goal

pub page_passed-requires-clause-short : goal.page_passed-requires-clause-short
page_passed-requires-clause-short c =
    let s = c.args.system.now in
    let es = c.args.proof.now.entries in
    let page = c.args.page.now in
    let made : List PageItem → Progress → Progress × (List ℕ → List Passed) = λ items done. unfold_page s (unfold_entry s es (length es)) page items (λ q. []) done in
    let short : length (made c.args.proof.now.page no_progress).0.steps ≤ MOST_LISTED = c.requires.short in
    subst (λ items. length (made items (progress_of c.new-trail.result)).0.steps ≤ MOST_LISTED) (sym c.items-items.ensures)
    (subst (λ done. length (made c.args.proof.now.page done).0.steps ≤ MOST_LISTED) (sym c.new-trail.ensures) short)

pub returns-clause-at : goal.returns-clause-at
returns-clause-at c =
    let s = c.args.system.now in
    let es = c.args.proof.now.entries in
    let page = c.args.page.now in
    let target = c.args.target in
    let made : List PageItem → Progress → Progress × (List ℕ → List Passed) = λ items done. unfold_page s (unfold_entry s es (length es)) page items (λ q. []) done in
    c.in_ok-at.ensures ∙ ap (λ (f : List ℕ → List Passed). end_for target (f []) []) c.in_ok-here.ensures.here
    ∙ ap (λ items. end_for target ((made items (progress_of c.new-trail.result)).1 []) []) c.items-items.ensures
    ∙ ap (λ done. end_for target ((made c.args.proof.now.page done).1 []) []) c.new-trail.ensures
