use Rattle.std.proofs.Common.{refl, arith, false-eqb}
use Rattle.std.proofs.lemmas.Result.{err_from_is_err_and}
use Rattle.html_subset.proofs.ReadingSteps.{fails}
use Rattle.html_subset.proofs.reading.take_all.Goals as goal

pub returns-in_err-take-clause-takes : goal.returns-in_err-take-clause-takes
returns-in_err-take-clause-takes c =
    let p = err_from_is_err_and c.from_residual.result c.from_residual.ensures.1 in
    rw (p.1, p.2)
    (λ known. fails _ _ _ _ _ _ _ _ c.tokens.invariant.reads c.next.ensures.gives refl c.next.ensures.rest (c.next.ensures.shorter (omega (arith, false-eqb _ 0 c.tokens-test.ensures)))
    (c.in_err-take.ensures.takes known))
