use Rattle.std.proofs.Common.{◌≡◌, map, length}
use Rattle.jq_words.specs.Words.{is_among}
use Rattle.jq_words.proofs.words.is_one_of.Given as goal

abbrev pub invariant-names : goal.invariant-names
invariant-names l = is_among (map (λ k. k.now) l.left) l.name ≡ is_among (map (λ k. k.now) l.names) l.name

abbrev pub decreases-names : goal.decreases-names
decreases-names l = length l.left
