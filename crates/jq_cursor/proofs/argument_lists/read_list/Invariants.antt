use Rattle.std.proofs.Common.{◌≡◌, [], length}
use Rattle.jq_cursor.specs.Spans.{span, CanCount}
use Rattle.jq_cursor.proofs.argument_lists.read_list.Given as goal

abbrev pub invariant-words : goal.invariant-words
invariant-words l = record {
  few : CanCount l.commas l.rest.words;
  goes_on : span l.open_brackets l.commas l.rest.words ≡ span [] 0 l.words.words;
}

abbrev pub decreases-words : goal.decreases-words
decreases-words l = length l.rest.words
