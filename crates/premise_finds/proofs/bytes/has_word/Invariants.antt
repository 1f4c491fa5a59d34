use Rattle.std.proofs.Common.{◌≡◌, map, length}
use Rattle.html_tokens.specs.Bytes.{lowered}
use Rattle.premise_finds.specs.Texts.{has_word}
use Rattle.premise_finds.proofs.bytes.has_word.Given as goal

abbrev pub invariant-words : goal.invariant-words
invariant-words l = has_word (map (λ w. lowered w.now) l.names) l.rest ≡ has_word (map (λ w. lowered w.now) l.names) l.text

abbrev pub decreases-words : goal.decreases-words
decreases-words l = length l.rest
