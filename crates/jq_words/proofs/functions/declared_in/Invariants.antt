use Rattle.std.proofs.Common.{◌≡◌, ◌++◌, map, length}
use Rattle.jq_words.specs.Functions.{declared_in}
use Rattle.jq_words.proofs.functions.declared_in.Given as goal

abbrev pub invariant-words : goal.invariant-words
invariant-words l = map (λ k. k.now) l.found.items ++ declared_in l.rest.words ≡ declared_in l.words.words

abbrev pub decreases-words : goal.decreases-words
decreases-words l = length l.rest.words
