use Rattle.std.proofs.Common.{◌≡◌, length}
use Rattle.html_tokens.specs.Words.{words}
use Rattle.sheet_asks.specs.Names.{with_all}
use Rattle.sheet_asks.proofs.name_set.NameSet.put_words.Given as goal

abbrev pub invariant-words : goal.invariant-words
invariant-words l = with_all l.self (words l.rest) ≡ with_all l.initial.self (words l.text)

abbrev pub decreases-words : goal.decreases-words
decreases-words l = length l.rest
