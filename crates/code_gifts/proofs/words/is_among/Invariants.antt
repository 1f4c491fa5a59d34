use Rattle.std.proofs.Common.{◌≡◌, map, length}
use Rattle.text_bytes.specs.Attributes.{is_among}
use Rattle.code_gifts.proofs.words.is_among.Given as goal

abbrev pub invariant-names : goal.invariant-names
invariant-names l = is_among (map (λ n. n.now) l.left) l.name ≡ is_among (map (λ n. n.now) l.names) l.name

abbrev pub decreases-names : goal.decreases-names
decreases-names l = length l.left
