use Rattle.std.proofs.Common.{◌≡◌, length}
use Rattle.code_values.specs.Texts.{are_texts}
use Rattle.code_values.proofs.texts.are_texts.Given as goal

abbrev pub invariant-pairs : goal.invariant-pairs
invariant-pairs l = are_texts l.text l.rest ≡ are_texts l.text l.tokens

abbrev pub decreases-pairs : goal.decreases-pairs
decreases-pairs l = length l.rest
