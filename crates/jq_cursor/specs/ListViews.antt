-- What arguments in the code are to the definitions.
use Rattle.jq_words.specs.Words.{Rest}
use Rattle.jq_cursor.specs.declared.argument_lists.Arguments as code
use Rattle.jq_cursor.specs.Lists.{Extent}

abbrev pub extent_of : code.Arguments Rest → Extent
extent_of e = record { count = e.count; whole = e.whole; behind = e.behind.words }
