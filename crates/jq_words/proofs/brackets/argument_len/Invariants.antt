use Rattle.std.proofs.Common.{◌≡◌, ◌+◌, [], length}
use Rattle.jq_words.specs.Brackets.{argument_len}
use Rattle.jq_words.proofs.ArgumentSteps.{AreCounted}
use Rattle.jq_words.proofs.brackets.argument_len.Given as goal

abbrev pub invariant-words : goal.invariant-words
invariant-words l = record {
  counted : AreCounted l.count l.rest.words;
  same : l.count + argument_len l.others l.open_brackets l.rest.words ≡ argument_len l.others [] l.words.words;
}

abbrev pub decreases-words : goal.decreases-words
decreases-words l = length l.rest.words
