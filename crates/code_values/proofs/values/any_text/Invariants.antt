use Rattle.std.proofs.Common.{◌≡◌, length}
use Rattle.code_values.specs.Outer.{outer}
use Rattle.code_values.specs.Values.{any_text}
use Rattle.code_values.proofs.values.any_text.Given as goal

abbrev pub invariant-tokens : goal.invariant-tokens
invariant-tokens l = any_text l.code l.left ≡ any_text l.code (outer l.code l.fn.span)

abbrev pub decreases-tokens : goal.decreases-tokens
decreases-tokens l = length l.left
