use Rattle.std.proofs.Common.{◌≡◌, length}
use Rattle.code_values.specs.Outer.{outer}
use Rattle.code_values.specs.Runs.{drawn}
use Rattle.code_values.proofs.runs.Draft.pass_all.Given as goal

abbrev pub invariant-tokens : goal.invariant-tokens
invariant-tokens l = drawn l.script.text.now l.script.code.now l.left l.self ≡ drawn l.script.text.now l.script.code.now (outer l.script.code.now l.fn.span) l.fn.self

abbrev pub decreases-tokens : goal.decreases-tokens
decreases-tokens l = length l.left
