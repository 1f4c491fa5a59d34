use Rattle.std.proofs.Common.{◌∙◌, ap}
use Rattle.jq_words.specs.Words.{Rest, past}
use Rattle.jq_parts.proofs.TargetSteps.{no_wrapped}
use Rattle.jq_parts.proofs.targets.wrapped_word.Goals as goal

pub returns-clause-none : goal.returns-clause-none
returns-clause-none c =
    no_wrapped c.closed_word.result c.args.words.now.words _ (c.is_jquery_call.ensures ∙ c.if-not-is_jquery_call.false)
    (ap (λ (r : Rest). r.words) (c.behind-2.ensures ∙ ap (past 1) c.behind.ensures)) c.closed_word.ensures.none
