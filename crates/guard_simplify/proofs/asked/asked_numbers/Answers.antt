use Rattle.std.proofs.Common.{length, map, take, subst, ap, ◌∙◌, ◌≡◌, arith}
use Rattle.std.proofs.Math.Seq.{take-length}
use Rattle.guard_sem.specs.Guards.{guards_of}
use Rattle.guard_simplify.specs.Asked.{asked_of}
use Rattle.guard_simplify.specs.Numbered.{AreNumbered}
use Rattle.guard_simplify.proofs.AskedLemmas.{asked_numbered}
use Rattle.guard_simplify.proofs.asked.asked_numbers.Goals as goal

pub guards-preserved : goal.guards-preserved
guards-preserved c =
    asked_numbered c.args.first c.args.keys.now.keys c.guards.keys.keys c.asked_number.new.keys.keys c.args.guards.now c.guards.guard-index c.guard-item.result c.guards.made.items c.push.new.self.items c.in_ok-asked_number.field-0
    c.guards.invariant c.in_ok-asked_number.ensures c.guard-item.is c.guards-test.true c.in_ok-push.ensures.items

pub returns : goal.returns
returns c =
    let end : c.guards.guard-index ≡ length c.args.guards.now = omega (arith, c.guards-test.false, c.guards.auto.guard-index-end) in
    subst (λ z. AreNumbered c.args.first c.args.keys.now.keys c.guards.keys.keys (guards_of (map asked_of z)) c.guards.made.items)
    (ap (λ k. take k c.args.guards.now) end ∙ take-length c.args.guards.now) c.guards.invariant
