use Rattle.std.proofs.Common.{◌≡◌, filter, length}
use Rattle.html_tokens.specs.Words.{words}
use Rattle.sheet_asks.specs.Asked.{classes_in}
use Rattle.sheet_asks.specs.Names.{is_among, with_all}
use Rattle.sheet_asks.proofs.asked.Asked.classes_in.Given as goal

abbrev pub invariant-words : goal.invariant-words
invariant-words l = with_all l.found (filter (is_among l.self.classes) (words l.rest)) ≡ classes_in l.self l.text

abbrev pub decreases-words : goal.decreases-words
decreases-words l = length l.rest
