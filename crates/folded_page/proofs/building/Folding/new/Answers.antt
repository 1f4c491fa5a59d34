use Rattle.std.proofs.Common.{◌∷◌, ◌++◌, [], map, sym, ap, ◌∙◌, arith}
use Rattle.std.proofs.lemmas.List.{length-map}
use Rattle.tree_sem.specs.Trees.{leaf}
use Rattle.folded_page.proofs.EnterLemmas.{label_there, entered_first}
use Rattle.folded_page.proofs.building.Folding.new.Goals as goal

pub returns : goal.returns
returns c =
    let labelled = c.requires.labelled in
    let some = c.requires.some in
    let long = length-map c.args.columns.now.labels.items (λ b. b.now) in
    entered_first c.args.columns.now.parents.items c.args.leads.now (map (λ b. b.now) c.args.columns.now.labels.items) c.requires c.in_ok-page.page.builder c.in_ok-page.page.line.items c.in_ok-page.page.count c.push.new.self.items
    c.in_ok-page.ensures.order
    (c.in_ok-page.ensures.tree ∙ ap leaf (c.in_ok-copy.ensures ∙ sym (label_there (λ b. b.now) c.args.columns.now.labels.items 0 c.index.result.now (omega (arith, long, labelled, some)) c.index.ensures)))
    (c.in_ok-push.ensures.items ∙ ap (λ xs. xs ++ 0 ∷ []) c.new-numbers.ensures.items)
