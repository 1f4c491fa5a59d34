use Rattle.std.proofs.Common.{◌≡◌, map, take}
use Rattle.guard_simplify.specs.Asked.{asked_of}
use Rattle.css_read.specs.Views.{item_of}
use Rattle.judge.specs.Outcomes.{guards_in}
use Rattle.judge.proofs.simplifying.all_guards.Given as goal

abbrev pub invariant-guards : goal.invariant-guards
invariant-guards l = map asked_of l.guards.items ≡ guards_in (map item_of l.items) (take l.guard-index l.extra)
