use Rattle.std.proofs.Common.{[], Some, refl, sym, ap, ◌∙◌, arith}
use Rattle.std.proofs.lemmas.List.{get_or_read}
use Rattle.tree_sem.specs.Trees.{label_at}
use Rattle.closed_page.specs.ClosedPages.{ClosedPage}
use Rattle.closed_page.specs.Relabelled.{label_by, relabelled, shape_of}
use Rattle.closed_page.proofs.RelabelledLemmas.{no_label}
use Rattle.closed_page.proofs.closed.Closed.label.Goals as goal

pub returns-in-Some : goal.returns-in-Some
returns-in-Some c =
    let n = c.self.inside in
    let u = relabelled (label_by n.firsts.nodes n.own.items) (shape_of n.firsts.nodes) in
    let have = c.self.invariant.1 in
    let i = c.in-Some.number in
    let less = c.in-Some.ensures.some.0 in
    let count = have.labels.count in
    ap Some (c.set.ensures ∙ get_or_read n.own.items i c.index.result.now (omega (arith, less, count)) c.index.ensures []) ∙ sym (have.labels.each i less) ∙ ap (λ z. label_at z u) c.in-Some.ensures.some.1
    ∙ ap (λ (z : ClosedPage). label_at c.args.at.now z.labels) c.self.view_is

pub returns-in-None : goal.returns-in-None
returns-in-None c =
    let n = c.self.inside in
    no_label (relabelled (label_by n.firsts.nodes n.own.items) (shape_of n.firsts.nodes)) n.firsts.nodes n.own.items c.args.at.now c.self.invariant.1 (c.in-None.ensures.none refl) ∙ ap (λ (z : ClosedPage). label_at c.args.at.now z.labels) c.self.view_is
