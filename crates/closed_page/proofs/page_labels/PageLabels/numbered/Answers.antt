use Rattle.std.proofs.Common.{List, ℕ, Contains, map, refl, sym, ap, ◌∙◌, subst}
use Rattle.tp_base.proofs.Rising.{Contains-none}
use Rattle.tree_sem.specs.Trees.{LabelTree}
use Rattle.closed_page.specs.declared.notes.NodeNews.{NodeNews}
use Rattle.closed_page.specs.Labelled.{AreRelated}
use Rattle.closed_page.proofs.LabelledLemmas.{related_columns}
use Rattle.closed_page.proofs.ShapeLemmas.{labels_shaped}
use Rattle.closed_page.proofs.page_labels.PageLabels.numbered.Goals as goal

pub new-requires : goal.new-requires
new-requires c =
    let columns = c.args.columns in
    let labels : List (List ℕ) = map (λ b. b.now) columns.labels.items in
    (c.args.page.now, (labels, c.requires))

pub invariant_of-result : goal.invariant_of-result
invariant_of-result c =
    let t = c.args.page.now in
    let columns = c.args.columns in
    let labels : List (List ℕ) = map (λ b. b.now) columns.labels.items in
    let nodes = c.in_ok-nodes.ensures t (labels, c.requires) in
    let related = related_columns t t columns.parents.items columns.steps.items labels c.in_ok-nodes.nodes c.in_ok-own.own.items c.requires refl nodes
    (c.in_ok-own.ensures ∙ ap (map (λ b. b.now)) c.deref.ensures.value) in (
      subst (λ (z : LabelTree). AreRelated z c.in_ok-nodes.nodes c.in_ok-own.own.items) (sym (labels_shaped t c.in_ok-nodes.nodes c.in_ok-own.own.items nodes related)) related,
      λ f there. absurd (Contains-none f (subst (λ (z : List NodeNews). Contains z f) c.new-2.ensures.items there)),
    )

pub returns-clause-labels : goal.returns-clause-labels
returns-clause-labels c =
    let t = c.args.page.now in
    let columns = c.args.columns in
    let labels : List (List ℕ) = map (λ b. b.now) columns.labels.items in
    let nodes = c.in_ok-nodes.ensures t (labels, c.requires) in
    let related = related_columns t t columns.parents.items columns.steps.items labels c.in_ok-nodes.nodes c.in_ok-own.own.items c.requires refl nodes
    (c.in_ok-own.ensures ∙ ap (map (λ b. b.now)) c.deref.ensures.value) in
    labels_shaped t c.in_ok-nodes.nodes c.in_ok-own.own.items nodes related

pub returns-clause-nodes : goal.returns-clause-nodes
returns-clause-nodes c =
    let t = c.args.page.now in
    let columns = c.args.columns in
    let labels : List (List ℕ) = map (λ b. b.now) columns.labels.items in
    c.in_ok-nodes.ensures t (labels, c.requires)
