use Rattle.jq_words.proofs.Files.{behind_behind, rest_behind}
use Rattle.jq_parts.proofs.parameter_lists.parameters.Goals as goal

pub returns-then-begins-clause-rest : goal.returns-then-begins-clause-rest
returns-then-begins-clause-rest c = behind_behind _ _ _ c.in_ok-want_open.ensures.rest c.pass.ensures.rest

pub returns-clause-rest : goal.returns-clause-rest
returns-clause-rest c =
    behind_behind _ _ _ c.in_ok-want_open.ensures.rest
    (behind_behind _ _ _ c.in_ok-name.ensures.rest (rest_behind _ _ _ c.in_ok-more_parameters.ensures.rest c.in_ok-want.ensures.rest))
