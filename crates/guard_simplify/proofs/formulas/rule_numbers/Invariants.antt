use Rattle.std.proofs.Common.{map, take}
use Rattle.guard_sem.specs.Guards.{guards_of}
use Rattle.guard_sem.specs.declared.rules.Rule.{Rule}
use Rattle.guard_simplify.specs.Numbered.{AreNumbered}
use Rattle.guard_simplify.proofs.formulas.rule_numbers.Given as goal

abbrev pub invariant-rules : goal.invariant-rules
invariant-rules l = AreNumbered l.first l.fn.keys.keys l.keys.keys (guards_of (map (λ (r : Rule). r.guard) (take l.rule-index l.rules))) l.made.items
