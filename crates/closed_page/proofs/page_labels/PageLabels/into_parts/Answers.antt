use Rattle.std.proofs.Common.{List, ℕ, sym, ap, ◌∙◌, subst}
use Rattle.closed_page.specs.Labelled.{Labelled, HaveLabels}
use Rattle.closed_page.specs.Firsts.{AreOfNodes}
use Rattle.closed_page.specs.Relabelled.{label_by, relabelled, shape_of}
use Rattle.closed_page.proofs.LabelledLemmas.{parent_there}
use Rattle.closed_page.proofs.NoteLemmas.{spots_all}
use Rattle.closed_page.proofs.page_labels.PageLabels.into_parts.Goals as goal

pub new-requires : goal.new-requires
new-requires c =
    let n = c.self.inside in
    record {
      rooted = parent_there _ n.nodes n.own.items c.self.invariant.0;
      of_nodes = subst (λ (z : Labelled). AreOfNodes z.nodes z.firsts) (sym c.self.view_is) c.requires;
      spots = spots_all n.nodes n.notes.items c.self.invariant.1;
    }

pub returns-clause-tree : goal.returns-clause-tree
returns-clause-tree c =
    let n = c.self.inside in
    ap (λ (z : List (List ℕ)). relabelled (label_by z n.own.items) (shape_of z)) c.in_ok-firsts.ensures.nodes ∙ ap (λ (z : Labelled). z.labels) c.self.view_is

pub returns-clause-own : goal.returns-clause-own
returns-clause-own c =
    let n = c.self.inside in
    let is = c.self.invariant.0 in
    subst (λ (z : Labelled). HaveLabels z.labels c.in_ok-firsts.firsts.nodes n.own.items) c.self.view_is
    (subst (λ (z : List (List ℕ)). HaveLabels (relabelled (label_by n.nodes n.own.items) (shape_of n.nodes)) z n.own.items) (sym c.in_ok-firsts.ensures.nodes) (record { whole = is.whole; labels = is.labels }))
