use Rattle.std.proofs.Common.{◌≡◌, ◌+◌, ◌++◌, length}
use Rattle.guard_simplify.specs.Auxiliaries.{by_rule}
use Rattle.guard_simplify.specs.SeenRules.{class_rules}
use Rattle.guard_simplify.proofs.class_rules.add_all_classes.Given as goal

abbrev pub invariant-rules : goal.invariant-rules
invariant-rules l =
    (l.number + length l.rest ≡ length l.rules)
    × (l.locals.items ++ by_rule (class_rules l.guards) l.number l.rest ≡ l.fn.locals.items ++ by_rule (class_rules l.guards) 0 l.rules)

abbrev pub decreases-rules : goal.decreases-rules
decreases-rules l = length l.rest
