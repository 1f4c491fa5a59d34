use Rattle.std.proofs.Common.{List, ℕ, length, sym, ◌∙◌, subst}
use Rattle.closed_page.specs.Labelled.{Labelled, AreRelated, AreAllLabels}
use Rattle.closed_page.proofs.page_labels.PageLabels.all_own.Goals as goal

pub returns : goal.returns
returns c =
    let n = c.self.inside in
    let nodes = c.args.self.now.nodes in
    let is = subst (λ (z : Labelled). AreRelated z.labels z.nodes n.own.items) c.self.view_is c.self.invariant.0 in
    subst (λ (z : List (List ℕ)). AreAllLabels c.args.self.now.labels nodes z (length nodes)) (sym (c.in_ok-labels.ensures ∙ c.deref.ensures.value)) is.labels
