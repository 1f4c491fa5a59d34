use Rattle.std.proofs.Common.{refl}
use Rattle.std.proofs.lemmas.Result.{err_from_is_err_and}
use Rattle.html_subset.proofs.AttributeLemmas.{gives, gives_none}
use Rattle.html_subset.proofs.roots.Root.take.Goals as goal

pub returns-in_err-names-clause-does : goal.returns-in_err-names-clause-does
returns-in_err-names-clause-does c =
    let p = err_from_is_err_and c.from_residual.result c.from_residual.ensures.1 in
    rw (p.1, p.2) (λ off. gives_none _ _ _ _ (c.in_err-names.ensures.does off))

pub returns-clause-does : goal.returns-clause-does
returns-clause-does c = gives _ _ _ _ _ _ _ c.in_ok-names.ensures.does c.in_ok-names.ensures.given (rw c.in_ok-append.ensures.ok refl)
