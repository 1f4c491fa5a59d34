use Rattle.std.proofs.Common.{◌≡◌, ◌+◌, ◌++◌, length}
use Rattle.guard_simplify.specs.AtomNumbers.{AreAtoms}
use Rattle.guard_simplify.specs.SeenRules.{seen_rules}
use Rattle.guard_simplify.proofs.seen_rules.add_seen.Given as goal

abbrev pub invariant-guards : goal.invariant-guards
invariant-guards l =
    (l.number + length l.rest ≡ l.first + length l.guards)
    × AreAtoms l.rest
    × (l.locals.items ++ seen_rules l.number l.rest ≡ l.fn.locals.items ++ seen_rules l.first l.guards)

abbrev pub decreases-guards : goal.decreases-guards
decreases-guards l = length l.rest
