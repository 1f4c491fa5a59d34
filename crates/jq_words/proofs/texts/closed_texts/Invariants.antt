use Rattle.std.proofs.Common.{◌≡◌, length}
use Rattle.jq_words.specs.Texts.{closed_texts, with_letters}
use Rattle.jq_words.proofs.texts.closed_texts.Given as goal

abbrev pub invariant-texts : goal.invariant-texts
invariant-texts l = with_letters l.letters.items (closed_texts l.rest.words) ≡ closed_texts l.words.words

abbrev pub decreases-texts : goal.decreases-texts
decreases-texts l = length l.rest.words
