use Rattle.std.proofs.lemmas.Result.{err_from_is_err_and}
use Rattle.css_read.proofs.ItemSteps.{first_fails, all_fails}
use Rattle.css_read.proofs.reading.Draft.add_items.Goals as goal

pub returns-in_err-add_item-clause-reads : goal.returns-in_err-add_item-clause-reads
returns-in_err-add_item-clause-reads c =
    let p = err_from_is_err_and c.from_residual-in_err-add_item.result c.from_residual-in_err-add_item.ensures.1 in
    rw (p.1, p.2) (λ known. first_fails _ _ _ _ _ _ _ _ _ c.in_ok-piece.ensures.gives (c.in_err-add_item.ensures.reads known))

pub returns-in_err-add_item-2-clause-reads : goal.returns-in_err-add_item-2-clause-reads
returns-in_err-add_item-2-clause-reads c =
    let p = err_from_is_err_and c.from_residual-in_err-add_item-2.result c.from_residual-in_err-add_item-2.ensures.1 in
    rw (p.1, p.2)
    (λ known. all_fails _ _ _ _ _ _ _ _ _ _ _ _ c.commas.invariant.reads c.in-Some.ensures.cases.0 c.in_ok-piece-2.ensures.gives (rw c.commas.invariant.reads_on.text at (c.in_err-add_item-2.ensures.reads known)))
