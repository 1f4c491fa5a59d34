use Rattle.std.proofs.Common.{◌≡◌, ◌+◌, ◌≤◌, ◌++◌, length, map}
use Rattle.guard_simplify.specs.AtomNumbers.{HaveFewNodes}
use Rattle.guard_simplify.specs.Forests.{planted, plantings}
use Rattle.guard_simplify.proofs.forest_nodes.all_forests.Given as goal
use Rattle.guard_simplify.specs.declared.simplified.TheConstants.{MOST_RULES}

abbrev pub invariant-rules : goal.invariant-rules
invariant-rules l =
    (l.number + length l.rest ≤ MOST_RULES)
    × HaveFewNodes l.rest
    × (map planted l.forests.items ++ plantings l.number l.rest ≡ plantings 0 l.rules)

abbrev pub decreases-rules : goal.decreases-rules
decreases-rules l = length l.rest
