use Rattle.std.proofs.Common.{◌≡◌, ◌++◌, length, map}
use Rattle.guard_sem.specs.OfSelectors as spec
use Rattle.guard_simplify.specs.Asked.{asked_of}
use Rattle.css_read.specs.Views.{item_of}
use Rattle.judge.specs.Answers.{judged_in}
use Rattle.judge.proofs.simplifying.guards_of.Given as goal

abbrev pub invariant-items : goal.invariant-items
invariant-items l = map asked_of l.guards.items ++ map spec.of_selector (judged_in (map item_of l.rest)) ≡ map spec.of_selector (judged_in (map item_of l.items))

abbrev pub decreases-items : goal.decreases-items
decreases-items l = length l.rest
