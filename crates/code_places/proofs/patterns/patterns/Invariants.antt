use Rattle.std.proofs.Common.{◌≡◌, length}
use Rattle.code_places.specs.Patterns.{patterns_from, patterns}
use Rattle.code_places.proofs.patterns.patterns.Given as goal

abbrev pub invariant-tokens : goal.invariant-tokens
invariant-tokens l = patterns_from l.script.text.now l.script.code.now l.enclosing l.known.items l.rest ≡ patterns l.script.text.now l.script.code.now

abbrev pub decreases-tokens : goal.decreases-tokens
decreases-tokens l = length l.rest
