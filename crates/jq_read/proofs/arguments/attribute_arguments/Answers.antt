use Rattle.jq_words.proofs.Files.{is_rest, behind_rest}
use Rattle.jq_read.proofs.GoingOn.{with_words}
use Rattle.jq_read.proofs.arguments.attribute_arguments.Goals as goal

pub returns-then-begins-clause-goes_on : goal.returns-then-begins-clause-goes_on
returns-then-begins-clause-goes_on c = with_words c.in_ok-done.ensures.goes_on (is_rest _ _ (behind_rest _ _ _ c.in_ok-name.ensures.rest c.in_ok-done.ensures.goes_on.rest))
