use Rattle.std.proofs.Common.{◌≡◌, length}
use Rattle.jq_words.specs.Texts.{texts, with_letters}
use Rattle.jq_words.proofs.texts.joined_texts.Given as goal

abbrev pub invariant-texts : goal.invariant-texts
invariant-texts l = with_letters l.letters.items (texts l.rest.words) ≡ texts l.words.words

abbrev pub decreases-texts : goal.decreases-texts
decreases-texts l = length l.rest.words
