use Rattle.std.proofs.Common.{◌≡◌, ◌++◌, take}
use Rattle.guard_simplify.specs.SeenRules.{class_locals}
use Rattle.guard_simplify.proofs.class_rules.add_classes.Given as goal

abbrev pub invariant-classes : goal.invariant-classes
invariant-classes l = l.locals.items ≡ l.fn.locals.items ++ class_locals l.number l.needs (take l.i l.classes)
