use Rattle.std.proofs.Common.{◌≡◌, ◌++◌, length}
use Rattle.code_values.specs.Outer.{parts_from, parts as parts_in}
use Rattle.code_values.proofs.calls.parts_of.Given as goal

abbrev pub invariant-tokens : goal.invariant-tokens
invariant-tokens l = l.parts.items ++ parts_from l.script.text.now l.script.code.now l.span.to l.from l.left ≡ parts_in l.script.text.now l.script.code.now l.span

abbrev pub decreases-tokens : goal.decreases-tokens
decreases-tokens l = length l.left
