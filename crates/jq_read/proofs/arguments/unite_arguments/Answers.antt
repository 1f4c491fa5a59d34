use Rattle.jq_words.proofs.Files.{is_rest}
use Rattle.jq_read.specs.Readers.{context_of}
use Rattle.jq_read.proofs.GoingOn.{same_size}
use Rattle.jq_read.proofs.arguments.unite_arguments.Goals as goal

pub returns-clause-goes_on : goal.returns-clause-goes_on
returns-clause-goes_on c = let left = is_rest _ _ c.in_ok-letters.ensures.rest in record { rest = left; kept = same_size (context_of c.args.reading.now) _ left.size; front = c.in_ok-found.ensures.front }
