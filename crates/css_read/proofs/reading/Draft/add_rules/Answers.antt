use Rattle.std.proofs.lemmas.Result.{err_from_is_err_and}
use Rattle.css_read.proofs.RuleSteps.{all_fails}
use Rattle.css_read.proofs.reading.Draft.add_rules.Goals as goal

pub returns-in_err-add_front-clause-reads : goal.returns-in_err-add_front-clause-reads
returns-in_err-add_front-clause-reads c =
    let p = err_from_is_err_and c.from_residual-in_err-add_front.result c.from_residual-in_err-add_front.ensures.1 in
    rw (p.1, p.2)
    (λ known. all_fails _ _ _ _ _ _ _ _ _ _ _ c.rules.invariant.reads c.in_ok-front.ensures.gives c.in_ok-front.ensures.rest c.in_ok-front.ensures.shorter
    (rw c.rules.invariant.reads_on.text at (c.in_err-add_front.ensures.reads known)))
