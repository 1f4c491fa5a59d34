use Rattle.std.proofs.Common.{◌≡◌, List, ℕ, [], Some, unwrap_or, refl, sym, ap, ◌∙◌, arith, subst}
use Rattle.std.proofs.lemmas.List.{get_or_read}
use Rattle.tree_sem.specs.Trees.{label_at}
use Rattle.closed_page.specs.Gains.{label_in}
use Rattle.closed_page.specs.Labelled.{Labelled, AreRelated, node_of}
use Rattle.closed_page.specs.Firsts.{IsSpotOf}
use Rattle.closed_page.proofs.NoteLemmas.{noted}
use Rattle.closed_page.proofs.page_labels.PageLabels.note.Goals as goal

pub invariant_of-self : goal.invariant_of-self
invariant_of-self c =
    let n = c.self.inside in
    let v = node_of c.args.self.now c.args.number in
    let same : n.nodes ≡ c.args.self.now.nodes = ap (λ (z : Labelled). z.nodes) c.self.view_is in
    (c.self.invariant.0, c.note.ensures.spots n.nodes v (subst (λ (z : List (List ℕ)). IsSpotOf z v c.spot-spot.result) (sym same) c.spot-spot.ensures) c.self.invariant.1)

pub returns-clause-firsts : goal.returns-clause-firsts
returns-clause-firsts c =
    let n = c.self.inside in
    let l = c.args.self.now in
    let v = node_of l c.args.number in
    let is = subst (λ (z : Labelled). AreRelated z.labels z.nodes n.own.items) c.self.view_is c.self.invariant.0 in
    let count = is.labels.count in
    let here : label_at v l.labels ≡ Some c.set.result.now = is.labels.each c.args.number c.requires ∙ ap Some (sym (c.set.ensures ∙ get_or_read n.own.items c.args.number c.index.result.now (omega (arith, count, c.requires)) c.index.ensures [])) in
    let own : c.set.result.now ≡ label_in l.labels v = sym (ap (λ o. unwrap_or o []) here) in
    noted l n.nodes n.notes.items c.note.new.notes.items c.spot-spot.result v c.set.result.now (label_in l.labels v) c.args.label.now c.args.label.now c.args.round c.note.result (ap (λ (z : Labelled). z.nodes) c.self.view_is) (ap (λ (z : Labelled). z.firsts) c.self.view_is) c.spot-spot.ensures
    own refl c.note.ensures.noted
