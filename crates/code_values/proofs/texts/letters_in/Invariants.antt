use Rattle.std.proofs.Common.{◌≡◌, ◌++◌, length}
use Rattle.code_tokens.specs.Members.{letters_in}
use Rattle.code_values.proofs.texts.letters_in.Given as goal

abbrev pub invariant-tokens : goal.invariant-tokens
invariant-tokens l = l.letters.items ++ letters_in l.rest ≡ letters_in l.tokens

abbrev pub decreases-tokens : goal.decreases-tokens
decreases-tokens l = length l.rest
