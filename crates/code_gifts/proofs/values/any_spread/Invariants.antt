use Rattle.std.proofs.Common.{◌≡◌, length}
use Rattle.code_gifts.specs.Values.{any_spread}
use Rattle.code_gifts.proofs.values.any_spread.Given as goal

abbrev pub invariant-spans : goal.invariant-spans
invariant-spans l = any_spread l.script.text.now l.script.code.now l.left ≡ any_spread l.script.text.now l.script.code.now l.spans

abbrev pub decreases-spans : goal.decreases-spans
decreases-spans l = length l.left
