use Rattle.jq_words.proofs.Files.{behind_behind, behind_rest}
use Rattle.jq_forms.proofs.heads.pass_document.Goals as goal

pub returns-clause-rest : goal.returns-clause-rest
returns-clause-rest c = behind_behind _ _ _ c.pass.ensures.rest (behind_rest _ _ _ c.in_ok-want_open.ensures.rest c.pass_all.ensures.rest)
