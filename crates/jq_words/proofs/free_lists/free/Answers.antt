use Rattle.std.proofs.Common.{arith}
use Rattle.std.proofs.lemmas.Grind.{common_steps}
use Rattle.std.proofs.lemmas.Result.{err_from_is_err_and}
use Rattle.jq_words.proofs.ListSteps.{fails}
use Rattle.jq_words.proofs.free_lists.free.Goals as goal

pub returns-in_err-allow-clause-gives : goal.returns-in_err-allow-clause-gives
returns-in_err-allow-clause-gives c =
    let p = err_from_is_err_and c.from_residual.result c.from_residual.ensures.1 in
    rw (p.1, p.2) (λ known. let cause = c.in_err-allow.ensures known in grind (arith, common_steps, cause, fails))
