use Rattle.std.proofs.Common.{◌≡◌, ℕ, List, map, length, sym, ap, ◌∙◌}
use Rattle.tree_sem.specs.Trees.{count_of}
use Rattle.folded_page.specs.Leads.{own_count}
use Rattle.folded_page.proofs.FoldLemmas.{folded_whole}
use Rattle.folded_page.proofs.EnterLemmas.{both_further, same_leads, few_led}
use Rattle.folded_page.proofs.folding.folded.Goals as goal

pub returns-clause-folded : goal.returns-clause-folded
returns-clause-folded c =
    let columns = c.args.columns.now in
    both_further c.built.result _ _ _ c.built.ensures.folded c.built.ensures.whole
    (λ f so whole.
    folded_whole c.args.page.now f.tree columns.parents.items columns.steps.items c.deref-4.result.now f.numbers.items (map (λ b. b.now) columns.labels.items) c.requires
    (same_leads c.deref.result.now columns.parents.items c.in-Some.leads.items c.deref-4.result.now (map (λ b. b.now) c.deref-2.result.now) (map (λ b. b.now) columns.labels.items)
    c.deref.ensures.value (ap (map (λ b. b.now)) c.deref-2.ensures.value) c.deref-4.ensures.value (rw c.in-Some.is at c.in_ok-leads.ensures))
    so whole)

pub returns-clause-few : goal.returns-clause-few
returns-clause-few c =
    let columns = c.args.columns.now in
    let are =
    same_leads c.deref.result.now columns.parents.items c.in-Some.leads.items c.deref-4.result.now (map (λ b. b.now) c.deref-2.result.now) (map (λ b. b.now) columns.labels.items)
    c.deref.ensures.value (ap (map (λ b. b.now)) c.deref-2.ensures.value) c.deref-4.ensures.value (rw c.in-Some.is at c.in_ok-leads.ensures) in
    let long = c.len.ensures ∙ sym c.deref-4.ensures.len in
    let own : c.own_leads.result ≡ own_count c.deref-4.result.now (length c.deref-4.result.now) =
    c.own_leads.ensures ∙ ap (λ (xs : List ℕ). own_count xs (length xs)) (c.deref-3.ensures.value ∙ sym c.deref-4.ensures.value) in
    both_further c.built.result _ _ _ c.built.ensures.folded c.built.ensures.whole
    (λ f so whole. few_led c.deref-4.result.now (count_of f.tree) (count_of c.args.page.now) c.own_leads.result c.len.result
    (so.few ∙ ap (own_count c.deref-4.result.now) (whole ∙ sym are.count)) own long (are.count ∙ c.requires.parents_count) c.if-own_leads-len.false)
