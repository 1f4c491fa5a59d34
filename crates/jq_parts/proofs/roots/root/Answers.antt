use Rattle.jq_words.proofs.Files.{on_ok_behind}
use Rattle.jq_parts.proofs.roots.root.Goals as goal

pub returns-then-is_jquery_call-clause-rest : goal.returns-then-is_jquery_call-clause-rest
returns-then-is_jquery_call-clause-rest c = on_ok_behind _ _ _ _ c.pass.ensures.rest c.wrapped_root.ensures.rest
