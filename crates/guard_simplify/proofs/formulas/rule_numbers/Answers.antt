use Rattle.std.proofs.Common.{length, map, take, subst, ap, ◌∙◌, ◌≡◌, arith}
use Rattle.std.proofs.Math.Seq.{take-length}
use Rattle.guard_sem.specs.Guards.{guards_of}
use Rattle.guard_sem.specs.declared.rules.Rule.{Rule}
use Rattle.guard_simplify.specs.Numbered.{AreNumbered}
use Rattle.guard_simplify.proofs.Pushes.{rule_numbered}
use Rattle.guard_simplify.proofs.formulas.rule_numbers.Goals as goal

pub rules-preserved : goal.rules-preserved
rules-preserved c =
    rule_numbered c.args.first c.args.keys.now.keys c.rules.keys.keys c.number.new.keys.keys c.args.rules.now c.rules.rule-index c.rule-item.result c.rules.made.items c.push.new.self.items c.in_ok-number.field-0
    c.rules.invariant c.in_ok-number.ensures c.rule-item.is c.rules-test.true c.in_ok-push.ensures.items

pub returns : goal.returns
returns c =
    let end : c.rules.rule-index ≡ length c.args.rules.now = omega (arith, c.rules-test.false, c.rules.auto.rule-index-end) in
    subst (λ z. AreNumbered c.args.first c.args.keys.now.keys c.rules.keys.keys (guards_of (map (λ (r : Rule). r.guard) z)) c.rules.made.items)
    (ap (λ k. take k c.args.rules.now) end ∙ take-length c.args.rules.now) c.rules.invariant
