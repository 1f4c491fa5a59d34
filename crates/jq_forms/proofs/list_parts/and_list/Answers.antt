use Rattle.jq_words.proofs.Files.{is_rest, behind_behind}
use Rattle.jq_forms.proofs.list_parts.and_list.Goals as goal

pub returns-clause-rest : goal.returns-clause-rest
returns-clause-rest c = is_rest _ _ (behind_behind _ _ _ c.pass.ensures.rest c.in_ok-list_in.ensures.rest)
