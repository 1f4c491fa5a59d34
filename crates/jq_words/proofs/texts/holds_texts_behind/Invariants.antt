use Rattle.std.proofs.Common.{◌≡◌, length, drop}
use Rattle.jq_words.specs.Texts.{holds_texts}
use Rattle.jq_words.proofs.texts.holds_texts_behind.Given as goal

abbrev pub invariant-texts : goal.invariant-texts
invariant-texts l = holds_texts l.rest.words ≡ holds_texts (drop 1 l.words.words)

abbrev pub decreases-texts : goal.decreases-texts
decreases-texts l = length l.rest.words
