use Rattle.std.proofs.lemmas.Result.{err_from_is_err_and}
use Rattle.html_subset.proofs.EndingLemmas.{page_front, page_fails, page_stays, page_finished}
use Rattle.html_subset.proofs.reading.page.Goals as goal

pub finish_page-requires-clause-page : goal.finish_page-requires-clause-page
finish_page-requires-clause-page c = page_stays _ _ _ _ _ c.in_ok-builder.ensures.gives c.in_ok-taken.ensures.takes c.take_atoms.ensures.same

pub returns-in_err-taken-clause-reads : goal.returns-in_err-taken-clause-reads
returns-in_err-taken-clause-reads c =
    let p = err_from_is_err_and c.from_residual-in_err-taken.result c.from_residual-in_err-taken.ensures.1 in
    rw (p.1, p.2, c.take_atoms.ensures.names) (λ known. page_fails _ _ _ _ c.in_ok-builder.ensures.gives (c.in_err-taken.ensures.takes known))

pub returns-in_err-taken-clause-front : goal.returns-in_err-taken-clause-front
returns-in_err-taken-clause-front c = page_front _ _ _ _ c.in_ok-builder.ensures.gives c.in_err-taken.ensures.goes_on.front c.take_atoms.ensures.names

pub returns-clause-reads : goal.returns-clause-reads
returns-clause-reads c =
    rw c.take_atoms.ensures.names (page_finished c.finish_page.result _ _ _ _ _ c.in_ok-builder.ensures.gives c.in_ok-taken.ensures.takes c.take_atoms.ensures.same c.finish_page.ensures.tree c.finish_page.ensures.memory)

pub returns-clause-front : goal.returns-clause-front
returns-clause-front c = page_front _ _ _ _ c.in_ok-builder.ensures.gives c.in_ok-taken.ensures.goes_on.front c.take_atoms.ensures.names
