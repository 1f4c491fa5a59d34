use Rattle.std.proofs.Common.{◌≡◌, ◌++◌, length}
use Rattle.code_values.specs.Objects.{parts_at}
use Rattle.code_values.proofs.objects.parts_at.Given as goal

abbrev pub invariant-spans : goal.invariant-spans
invariant-spans l = l.parts.items ++ parts_at l.script.text.now l.script.code.now l.rest ≡ parts_at l.script.text.now l.script.code.now l.spans

abbrev pub decreases-spans : goal.decreases-spans
decreases-spans l = length l.rest
