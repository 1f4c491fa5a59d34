use Rattle.std.proofs.Common.{◌<◌, [], length, get_or, sym, subst}
use Rattle.closed_page.specs.Labelled.{Labelled, AreRelated, IsAbove}
use Rattle.closed_page.proofs.page_labels.PageLabels.parent.Goals as goal

pub parent-requires : goal.parent-requires
parent-requires c = subst (λ (z : Labelled). c.args.number < length z.nodes) (sym c.self.view_is) c.requires

pub returns-clause-above : goal.returns-clause-above
returns-clause-above c = subst (λ (z : Labelled). IsAbove z.nodes (get_or z.nodes c.args.number []) c.parent.result) c.self.view_is c.parent.ensures.above

pub returns-clause-whole : goal.returns-clause-whole
returns-clause-whole c =
    let n = c.self.inside in
    let is = subst (λ (z : Labelled). AreRelated z.labels z.nodes n.own.items) c.self.view_is c.self.invariant.0 in
    is.whole

pub returns-clause-once : goal.returns-clause-once
returns-clause-once c =
    let n = c.self.inside in
    let is = subst (λ (z : Labelled). AreRelated z.labels z.nodes n.own.items) c.self.view_is c.self.invariant.0 in
    is.once
