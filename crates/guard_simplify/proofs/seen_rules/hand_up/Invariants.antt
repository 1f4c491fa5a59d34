use Rattle.std.proofs.Common.{◌≡◌, ◌+◌, ◌++◌, length}
use Rattle.guard_simplify.specs.SeenRules.{seen_links}
use Rattle.guard_simplify.proofs.seen_rules.hand_up.Given as goal

abbrev pub invariant-guards : goal.invariant-guards
invariant-guards l =
    (l.number + length l.rest ≡ l.first + length l.guards)
    × (l.links.items ++ seen_links l.number l.rest ≡ l.fn.links.items ++ seen_links l.first l.guards)

abbrev pub decreases-guards : goal.decreases-guards
decreases-guards l = length l.rest
