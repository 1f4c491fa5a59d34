use Rattle.jq_words.proofs.Files.{is_rest, behind_behind}
use Rattle.jq_read.specs.Readers.{context_of}
use Rattle.jq_read.proofs.GoingOn.{same_size}
use Rattle.jq_read.proofs.calls.listened.Goals as goal

pub returns-clause-goes_on : goal.returns-clause-goes_on
returns-clause-goes_on c = let left = is_rest _ _ (behind_behind _ _ _ c.in_ok-letters.ensures.rest c.in_ok-want.ensures.rest) in record { rest = left; kept = same_size (context_of c.args.reading.now) _ left.size; front = c.in_ok-found.ensures.front }
