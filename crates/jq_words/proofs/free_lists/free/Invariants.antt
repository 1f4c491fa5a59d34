use Rattle.std.proofs.Common.{◌≡◌, length}
use Rattle.jq_words.specs.Results.{Began}
use Rattle.jq_words.specs.Views.{rules_of}
use Rattle.jq_words.specs.FreeLists.{free, free_from}
use Rattle.jq_words.proofs.free_lists.free.Given as goal

abbrev pub invariant-words : goal.invariant-words
invariant-words l = record {
  began : Began l.fn.words.words l.before l.words.words;
  size : l.words.size ≡ l.fn.words.size;
  reads : free_from l.fn.words.size (rules_of l.rules) l.open_brackets l.before l.words.words ≡ free l.fn.words.size (rules_of l.rules) l.fn.words.words;
}

abbrev pub decreases-words : goal.decreases-words
decreases-words l = length l.words.words
