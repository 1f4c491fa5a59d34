use Rattle.sel_text.proofs.Fronts.{front_of_front}
use Rattle.jq_words.proofs.Files.{is_rest, behind_behind}
use Rattle.jq_read.specs.Readers.{context_of}
use Rattle.jq_read.proofs.GoingOn.{same_size}
use Rattle.jq_read.proofs.arguments.value_argument.Goals as goal

pub returns-clause-goes_on : goal.returns-clause-goes_on
returns-clause-goes_on c =
    let left = is_rest _ _ (behind_behind _ _ _ c.pass.ensures.rest c.in_ok-value.ensures.rest) in
    record {
      rest = left;
      kept = same_size (context_of c.args.reading.now) _ left.size;
      front = front_of_front _ _ _ c.in_ok-add_attribute.ensures.front c.in_ok-add_attribute-2.ensures.front;
    }
