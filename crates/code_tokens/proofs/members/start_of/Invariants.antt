use Rattle.std.proofs.Common.{◌≡◌, length, reverse}
use Rattle.code_tokens.specs.Members.{start_of}
use Rattle.code_tokens.proofs.members.start_of.Given as goal

abbrev pub invariant-pairs : goal.invariant-pairs
invariant-pairs l = start_of l.text (reverse l.rest) ≡ start_of l.text (reverse l.tokens)

abbrev pub decreases-pairs : goal.decreases-pairs
decreases-pairs l = length l.rest
