use Rattle.jq_words.proofs.Files.{behind_behind, behind_rest}
use Rattle.jq_read.proofs.GoingOn.{with_words}
use Rattle.jq_read.proofs.calls.listening.Goals as goal

pub returns-clause-goes_on : goal.returns-clause-goes_on
returns-clause-goes_on c =
    with_words c.in_ok-elements.ensures.goes_on (behind_behind _ _ _ c.in_ok-text_argument.ensures.rest (behind_rest _ _ _ c.in_ok-want.ensures.rest c.in_ok-elements.ensures.goes_on.rest))
