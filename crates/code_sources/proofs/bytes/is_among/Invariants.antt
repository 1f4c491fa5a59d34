use Rattle.std.proofs.Common.{◌≡◌, map, length}
use Rattle.html_tokens.specs.Bytes.{lowered}
use Rattle.html_tokens.specs.Names.{is_among}
use Rattle.code_sources.proofs.bytes.is_among.Given as goal

abbrev pub invariant-words : goal.invariant-words
invariant-words l = is_among (map (λ n. lowered n.now) l.left) (lowered l.word) ≡ is_among (map (λ n. lowered n.now) l.words) (lowered l.word)

abbrev pub decreases-words : goal.decreases-words
decreases-words l = length l.left
