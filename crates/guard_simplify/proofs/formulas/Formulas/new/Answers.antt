use Rattle.std.proofs.Common.{ℕ, ◌==◌, map, subst, ap, ◌∙◌}
use Rattle.guard_sem.specs.Guards.{guards_of}
use Rattle.guard_sem.specs.declared.rules.Rule.{Rule}
use Rattle.guard_simplify.specs.declared.formulas.Formulas.{Formulas}
use Rattle.guard_simplify.specs.Asked.{asked_of}
use Rattle.guard_simplify.specs.Firsts.{different}
use Rattle.guard_simplify.specs.Numbered.{AreNumbered}
use Rattle.guard_simplify.proofs.CountedLemmas.{numbering_is}
use Rattle.guard_simplify.proofs.formulas.Formulas.new.Goals as goal

pub returns : goal.returns
returns c =
    let made : Formulas = record { keys = c.asked_numbers.new.keys; of_rules = c.in_ok-of_rules.of_rules; of_guards = c.in_ok-of_guards.of_guards; seen = c.in_ok-seen.seen } in
    let of_rules = subst (λ z. AreNumbered c.args.first z c.rule_numbers.new.keys.keys (guards_of (map (λ (r : Rule). r.guard) c.args.rules.now)) c.in_ok-of_rules.of_rules.items) c.in_ok-keys.ensures.empty c.in_ok-of_rules.ensures in
    numbering_is c.args.rules.now (map asked_of c.args.guards.now) c.args.first c.rule_numbers.new.keys.keys made c.requires.rules_over c.requires.guards_over of_rules c.in_ok-of_guards.ensures
    (c.in_ok-seen.ensures ∙ ap (different (λ (x y : ℕ). x == y)) c.deref.ensures.value)
