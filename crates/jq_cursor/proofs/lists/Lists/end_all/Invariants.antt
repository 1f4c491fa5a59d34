use Rattle.std.proofs.Common.{◌≡◌, length}
use Rattle.jq_cursor.specs.Notes.{AllEnd}
use Rattle.jq_cursor.proofs.lists.Lists.end_all.Given as goal

abbrev pub invariant-brackets : goal.invariant-brackets
invariant-brackets l = record {
  kept : l.self ≡ l.fn.self;
  ends : AllEnd l.self.words l.opened.items l.words.words;
}

abbrev pub decreases-brackets : goal.decreases-brackets
decreases-brackets l = length l.opened.items
