use Rattle.std.proofs.Common.{◌<◌, length, sym, subst}
use Rattle.closed_page.specs.Labelled.{Labelled, AreRelated, AreKids}
use Rattle.closed_page.proofs.page_labels.PageLabels.kids.Goals as goal

pub kids-requires : goal.kids-requires
kids-requires c = subst (λ (z : Labelled). c.args.number < length z.nodes) (sym c.self.view_is) c.requires

pub returns-clause-kids : goal.returns-clause-kids
returns-clause-kids c = subst (λ (z : Labelled). AreKids z.nodes c.args.number c.kids.result.now) c.self.view_is c.kids.ensures

pub returns-clause-whole : goal.returns-clause-whole
returns-clause-whole c =
    let n = c.self.inside in
    let is = subst (λ (z : Labelled). AreRelated z.labels z.nodes n.own.items) c.self.view_is c.self.invariant.0 in
    is.whole
