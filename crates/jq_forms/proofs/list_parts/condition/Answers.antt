use Rattle.jq_words.proofs.Files.{behind_behind}
use Rattle.jq_forms.proofs.list_parts.condition.Goals as goal

pub returns-clause-rest : goal.returns-clause-rest
returns-clause-rest c = behind_behind _ _ _ c.pass.ensures.rest (behind_behind _ _ _ c.in_ok-want_open.ensures.rest (behind_behind _ _ _ c.in_ok-list_in.ensures.rest c.in_ok-want.ensures.rest))
