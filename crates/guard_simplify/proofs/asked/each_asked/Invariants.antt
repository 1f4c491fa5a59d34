use Rattle.std.proofs.Common.{◌≡◌, map, take}
use Rattle.guard_simplify.specs.Asked.{asked_of}
use Rattle.guard_simplify.proofs.asked.each_asked.Given as goal

abbrev pub invariant-guards : goal.invariant-guards
invariant-guards l = map asked_of l.asked.items ≡ take l.guard-index l.guards
