use Rattle.std.proofs.Common.{◌≡◌, length, map, take, refl, ap, ◌∙◌, arith}
use Rattle.std.proofs.Math.Seq.{take-length}
use Rattle.guard_sem.specs.OfSelectors.{of_selector}
use Rattle.guard_simplify.proofs.AskedLemmas.{asked_pushed}
use Rattle.css_read.specs.Views.{item_of}
use Rattle.judge.specs.Answers.{judged_in}
use Rattle.judge.specs.Outcomes.{guards_in}
use Rattle.judge.proofs.simplifying.all_guards.Goals as goal

pub guards-preserved : goal.guards-preserved
guards-preserved c =
    asked_pushed (map of_selector (judged_in (map item_of c.args.items.now))) c.args.extra.now c.guards.guard-index c.guard-item.result c.guards.guards.items c.push.new.self.items _
    c.guards.invariant c.in_ok-push.ensures.items refl c.guard-item.is c.guards-test.true

pub returns : goal.returns
returns c =
    let end : c.guards.guard-index ≡ length c.args.extra.now = omega (arith, c.guards-test.false, c.guards.auto.guard-index-end) in
    c.guards.invariant ∙ ap (λ k. guards_in (map item_of c.args.items.now) (take k c.args.extra.now)) end ∙ ap (guards_in (map item_of c.args.items.now)) (take-length c.args.extra.now)
