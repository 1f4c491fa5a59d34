use Rattle.std.proofs.Common.{[], sym, ap, ◌∙◌, arith, subst}
use Rattle.closed_page.specs.Labelled.{Labelled, AreRelated}
use Rattle.std.proofs.lemmas.List.{get_or_read}
use Rattle.std.proofs.Common.{Some}
use Rattle.closed_page.proofs.page_labels.PageLabels.own.Goals as goal

pub returns : goal.returns
returns c =
    let n = c.self.inside in
    let is = subst (λ (z : Labelled). AreRelated z.labels z.nodes n.own.items) c.self.view_is c.self.invariant.0 in
    let count = is.labels.count in
    is.labels.each c.args.number c.requires ∙ ap Some (sym (c.set.ensures ∙ get_or_read n.own.items c.args.number c.index.result.now (omega (arith, count, c.requires)) c.index.ensures []))
