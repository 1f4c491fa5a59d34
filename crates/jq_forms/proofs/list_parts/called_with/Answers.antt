use Rattle.jq_words.proofs.Files.{behind_behind, rest_behind}
use Rattle.jq_forms.proofs.list_parts.called_with.Goals as goal

pub returns-clause-rest : goal.returns-clause-rest
returns-clause-rest c = behind_behind _ _ _ c.in_ok-want_open.ensures.rest (rest_behind _ _ _ c.in_ok-given.ensures.rest c.in_ok-want.ensures.rest)
