use Rattle.std.proofs.Common.{map, take}
use Rattle.guard_sem.specs.Guards.{guards_of}
use Rattle.guard_simplify.specs.Asked.{asked_of}
use Rattle.guard_simplify.specs.Numbered.{AreNumbered}
use Rattle.guard_simplify.proofs.asked.asked_numbers.Given as goal

abbrev pub invariant-guards : goal.invariant-guards
invariant-guards l = AreNumbered l.first l.fn.keys.keys l.keys.keys (guards_of (map asked_of (take l.guard-index l.guards))) l.made.items
