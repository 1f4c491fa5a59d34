use Rattle.std.proofs.Common.{ap, ◌∙◌, get_or}
use Rattle.folded_page.proofs.LeadLemmas.{matched_first, matched_next}
use Rattle.folded_page.proofs.leads.are_matched.Goals as goal

pub children-init : goal.children-init
children-init c =
    let links = c.args.links.now in
    matched_first c.args.parents.now c.args.leads.now links.first.items links.next.items c.args.i c.number_at-last.result c.number_at-other.result c.requires.above c.requires.links c.number_at-last.ensures
    (c.number_at-other.ensures ∙ ap (λ xs. get_or xs c.number_at-last.result 0) c.deref-2.ensures.value)

pub children-preserved : goal.children-preserved
children-preserved c =
    let links = c.args.links.now in
    matched_next c.args.parents.now c.args.leads.now links.first.items links.next.items c.args.i c.children.own c.children.last c.children.other c.number_at-other-in-children.result c.requires.links (c.is_pair.ensures c.if-not-is_pair.false) c.children-test.true
    (c.number_at-other-in-children.ensures ∙ ap (λ xs. get_or xs c.children.other 0) c.deref-in-children-2.ensures.value) c.children.invariant
