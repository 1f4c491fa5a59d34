use Rattle.std.proofs.Common.{◌≡◌, length}
use Rattle.code_values.specs.Outer.{outer}
use Rattle.code_values.specs.Values.{any_choice}
use Rattle.code_values.proofs.values.any_choice.Given as goal

abbrev pub invariant-tokens : goal.invariant-tokens
invariant-tokens l = any_choice l.script.text.now l.script.code.now l.left ≡ any_choice l.script.text.now l.script.code.now (outer l.script.code.now l.fn.span)

abbrev pub decreases-tokens : goal.decreases-tokens
decreases-tokens l = length l.left
