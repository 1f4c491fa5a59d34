use Rattle.std.proofs.Common.{◌≡◌, length}
use Rattle.jq_words.specs.Results.{IsRest}
use Rattle.jq_cursor.specs.Notes.{Holds}
use Rattle.jq_cursor.proofs.lists.Lists.note_all.Given as goal

abbrev pub invariant-words : goal.invariant-words
invariant-words l = record {
  kept : l.self ≡ l.fn.self;
  part : IsRest l.self.words l.rest.words;
  holds : Holds l.self.words l.opened.items l.rest.words;
}

abbrev pub decreases-words : goal.decreases-words
decreases-words l = length l.rest.words
