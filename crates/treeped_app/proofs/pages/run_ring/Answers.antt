use Rattle.std.proofs.Common.{ℕ, ◌≤◌, List, length, refl, subst, ◌∙◌}
use Rattle.tp_base.specs.declared.places.TheConstants.{MOST_BYTES}
use Rattle.treeped_app.specs.Runs.{ring_texts}
use Rattle.treeped_app.proofs.MeansLemmas.{ring_from}
use Rattle.treeped_app.proofs.RunLemmas.{ring_ends}
use Rattle.treeped_app.proofs.pages.run_ring.Goals as goal

pub returns-clause-means : goal.returns-clause-means
returns-clause-means g c = λ told.
    let made = c.in_ok-triple.ensures in
    ring_from c.count.result told c.args.n c.args.request.now.mode _ _ (rw (c.deref.ensures.value ∙ c.into_items-page.ensures ∙ made.page, c.deref-2.ensures.value ∙ c.into_items-sheet.ensures ∙ made.sheet, c.deref-3.ensures.value ∙ c.into_items-script.ensures ∙ made.script) at c.count.ensures.means)

pub returns-clause-ends : goal.returns-clause-ends
returns-clause-ends g c = λ told words loads task.
    let made = c.in_ok-triple.ensures in
    ring_ends told words loads _ c.args.n c.args.request.now.mode c.args.request.now.limits.now (ring_texts c.args.n) c.count.result c.requires.one task refl
    (record {
      page = subst (λ (z : List ℕ). length z ≤ MOST_BYTES) made.page made.small_page;
      sheet = subst (λ (z : List ℕ). length z ≤ MOST_BYTES) made.sheet made.small_sheet;
      script = subst (λ (z : List ℕ). length z ≤ MOST_BYTES) made.script made.small_script;
    })
    (rw (c.deref.ensures.value ∙ c.into_items-page.ensures ∙ made.page, c.deref-2.ensures.value ∙ c.into_items-sheet.ensures ∙ made.sheet, c.deref-3.ensures.value ∙ c.into_items-script.ensures ∙ made.script) at c.count.ensures.written)
