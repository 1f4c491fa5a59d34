use Rattle.std.proofs.Common.{◌≡◌, length}
use Rattle.code_places.specs.Enclosing.{enclosing_from, enclosing}
use Rattle.code_places.proofs.brackets.enclosing.Given as goal

abbrev pub invariant-tokens : goal.invariant-tokens
invariant-tokens l = enclosing_from l.known.items l.inner l.rest ≡ enclosing l.code

abbrev pub decreases-tokens : goal.decreases-tokens
decreases-tokens l = length l.rest
