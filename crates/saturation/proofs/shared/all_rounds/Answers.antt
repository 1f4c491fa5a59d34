use Rattle.simple_core.specs.declared.summaries.GainFault.TheVariants.{Spent}
use Rattle.saturation.proofs.RoundLemmas.{error_passed}
use Rattle.saturation.proofs.shared.all_rounds.Goals as goal

pub returns-in_err-saturate-clause-spent : goal.returns-in_err-saturate-clause-spent
returns-in_err-saturate-clause-spent c spent =
    c.in_err-saturate.ensures.spent (error_passed c.from_residual-in_err-saturate.result c.in_err-saturate.field-0.0 Spent c.from_residual-in_err-saturate.ensures.1 spent)
