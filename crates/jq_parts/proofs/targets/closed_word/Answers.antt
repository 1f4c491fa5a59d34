use Rattle.std.proofs.Common.{◌∙◌, ap, sym}
use Rattle.jq_words.specs.Words.{Rest}
use Rattle.jq_parts.proofs.TargetSteps.{closed}
use Rattle.jq_parts.proofs.targets.closed_word.Goals as goal

pub returns-clause-some : goal.returns-clause-some
returns-clause-some c = λ p.
    closed p _ _ _ c.in-Some.ensures.some (sym (ap (λ (r : Rest). r.words) c.behind.ensures) ∙ c.in-Some-only.ensures.some) (sym c.is_mark.ensures ∙ c.if-not-is_mark.false)
