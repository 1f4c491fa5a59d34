use Rattle.jq_words.proofs.Files.{behind_behind}
use Rattle.jq_forms.proofs.list_parts.set.Goals as goal

pub returns-then-begins_setting-clause-rest : goal.returns-then-begins_setting-clause-rest
returns-then-begins_setting-clause-rest c =
    behind_behind _ _ _ c.pass.ensures.rest (behind_behind _ _ _ c.pass-then-begins_setting.ensures.rest c.in_ok-list_statement.ensures.rest)
