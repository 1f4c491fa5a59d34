use Rattle.std.proofs.Common.{map}
use Rattle.guard_sem.specs.OfSelectors.{of_selector}
use Rattle.guard_simplify.specs.Asked.{asked_of}
use Rattle.css_read.specs.Views.{item_of}
use Rattle.judge.specs.Answers.{judged_in}
use Rattle.judge.proofs.GuardLemmas.{guards_next}
use Rattle.judge.proofs.simplifying.guards_of.Goals as goal

pub items-preserved : goal.items-preserved
items-preserved c =
    guards_next (map asked_of c.items.guards.items) (map asked_of c.add_guard.new.guards.items) (map of_selector (judged_in (map item_of c.args.items.now))) c.items.rest.now c.in-Some.later.now c.in-Some.item.now
    c.in-Some.ensures.cases.0 c.in_ok-add_guard.ensures c.items.invariant
