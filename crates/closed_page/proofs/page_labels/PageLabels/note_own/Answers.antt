use Rattle.std.proofs.Common.{◌≡◌, List, ℕ, [], Some, unwrap_or, sym, ap, ◌∙◌, arith, subst}
use Rattle.std.proofs.lemmas.List.{get_or_read}
use Rattle.tree_sem.specs.Trees.{label_at}
use Rattle.closed_page.specs.Gains.{label_in}
use Rattle.closed_page.specs.Labelled.{Labelled, AreRelated, node_of}
use Rattle.closed_page.specs.Firsts.{IsSpotOf}
use Rattle.std.specs.List.Sorted.{IsStrictlyIncreasing}
use Rattle.closed_page.proofs.NoteLemmas.{noted, none_noted}
use Rattle.closed_page.proofs.page_labels.PageLabels.note_own.Goals as goal

pub invariant_of-self : goal.invariant_of-self
invariant_of-self c =
    let n = c.self.inside in
    let v = node_of c.args.self.now c.args.number in
    let same : n.nodes ≡ c.args.self.now.nodes = ap (λ (z : Labelled). z.nodes) c.self.view_is in
    (c.self.invariant.0, c.note.ensures.spots n.nodes v (subst (λ (z : List (List ℕ)). IsSpotOf z v c.spot-spot.result) (sym same) c.spot-spot.ensures) c.self.invariant.1)

pub returns-then-len-eq0-clause-firsts : goal.returns-then-len-eq0-clause-firsts
returns-then-len-eq0-clause-firsts c =
    let n = c.self.inside in
    let l = c.args.self.now in
    let v = node_of l c.args.number in
    let is = subst (λ (z : Labelled). AreRelated z.labels z.nodes n.own.items) c.self.view_is c.self.invariant.0 in
    let count = is.labels.count in
    let here : label_at v l.labels ≡ Some c.set-own.result.now = is.labels.each c.args.number c.requires.number ∙ ap Some (sym (c.set-own.ensures ∙ get_or_read n.own.items c.args.number c.index.result.now (omega (arith, count, c.requires.number)) c.index.ensures [])) in
    let own : c.set-own.result.now ≡ label_in l.labels v = sym (ap (λ o. unwrap_or o []) here) in
    none_noted c.set-own.result.now (label_in l.labels v) v 0 l.firsts own (omega (arith, c.if-len-eq0.true, c.len.ensures.count))

pub returns-then-len-eq0-clause-rising : goal.returns-then-len-eq0-clause-rising
returns-then-len-eq0-clause-rising c =
    let n = c.self.inside in
    let l = c.args.self.now in
    let v = node_of l c.args.number in
    let is = subst (λ (z : Labelled). AreRelated z.labels z.nodes n.own.items) c.self.view_is c.self.invariant.0 in
    let count = is.labels.count in
    let here : label_at v l.labels ≡ Some c.set-own.result.now = is.labels.each c.args.number c.requires.number ∙ ap Some (sym (c.set-own.ensures ∙ get_or_read n.own.items c.args.number c.index.result.now (omega (arith, count, c.requires.number)) c.index.ensures [])) in
    let own : c.set-own.result.now ≡ label_in l.labels v = sym (ap (λ o. unwrap_or o []) here) in
    subst IsStrictlyIncreasing own c.len.ensures.rising

pub returns-then-len-eq0-clause-few : goal.returns-then-len-eq0-clause-few
returns-then-len-eq0-clause-few c =
    let n = c.self.inside in
    let notes = ap (λ (z : Labelled). z.notes) c.self.view_is in
    omega (arith, notes, n.notes.ok)

pub returns-clause-firsts : goal.returns-clause-firsts
returns-clause-firsts c =
    let n = c.self.inside in
    let l = c.args.self.now in
    let v = node_of l c.args.number in
    let is = subst (λ (z : Labelled). AreRelated z.labels z.nodes n.own.items) c.self.view_is c.self.invariant.0 in
    let count = is.labels.count in
    let here : label_at v l.labels ≡ Some c.index-2.result.now = is.labels.each c.args.number c.requires.number ∙ ap Some (sym (get_or_read n.own.items c.args.number c.index-2.result.now (omega (arith, count, c.requires.number)) c.index-2.ensures [])) in
    let own : c.index-2.result.now ≡ label_in l.labels v = sym (ap (λ o. unwrap_or o []) here) in
    noted l n.nodes n.notes.items c.note.new.notes.items c.spot-spot.result v c.args.none.now [] c.index-2.result.now (label_in l.labels v) 0 c.note.result (ap (λ (z : Labelled). z.nodes) c.self.view_is) (ap (λ (z : Labelled). z.firsts) c.self.view_is) c.spot-spot.ensures
    c.requires.none own c.note.ensures.noted
