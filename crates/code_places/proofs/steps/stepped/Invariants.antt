use Rattle.std.proofs.Common.{◌≡◌, length}
use Rattle.code_places.specs.Steps.{stepped_from, stepped}
use Rattle.code_places.proofs.steps.stepped.Given as goal

abbrev pub invariant-tokens : goal.invariant-tokens
invariant-tokens l = stepped_from l.script.text.now l.script.code.now l.known.items l.rest ≡ stepped l.script.text.now l.script.code.now

abbrev pub decreases-tokens : goal.decreases-tokens
decreases-tokens l = length l.rest
