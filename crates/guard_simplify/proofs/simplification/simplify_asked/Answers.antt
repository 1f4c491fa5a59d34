use Rattle.std.proofs.Common.{Option, length, map, ok_or, sym, subst, ap, ◌∙◌}
use Rattle.guard_simplify.specs.declared.simplified.Simplified.{Simplified}
use Rattle.guard_simplify.specs.declared.simplified.SimplifyFault.TheVariants.{TooManyVisible}
use Rattle.guard_simplify.specs.Asked.{asked_of}
use Rattle.guard_simplify.specs.Counted.{IsCountedWithin}
use Rattle.guard_simplify.specs.Outcome.{simplified}
use Rattle.guard_simplify.proofs.Outcomes.{err_gives, outcome_made, sound_made}
use Rattle.guard_simplify.proofs.simplification.simplify_asked.Goals as goal

pub returns-in_err-made-clause-system : goal.returns-in_err-made-clause-system
returns-in_err-made-clause-system c = err_gives c.from_residual-in_err-made.result (simplified c.args.rules.now (map asked_of c.args.guards.now) (length c.args.atoms.now)) c.from_residual-in_err-made.ensures.1

pub returns-in_default-2-clause-system : goal.returns-in_default-2-clause-system
returns-in_default-2-clause-system c =
    let counted' = subst (IsCountedWithin c.args.rules.now (map asked_of c.args.guards.now) c.count-first.result) c.in-Some.is c.in_ok-counted.ensures in
    λ other. outcome_made c.args.rules.now (map asked_of c.args.guards.now) (length c.args.atoms.now) c.in-Some.counted counted'.0 (counted'.1 ∙ c.count-first.ensures.count) counted'.2 c.in_ok-made.field-0 c.in_ok-made.ensures
    ∙ ap (λ (z : Option Simplified). ok_or z TooManyVisible) c.in_default-2.is

pub returns-clause-system : goal.returns-clause-system
returns-clause-system c =
    let counted' = subst (IsCountedWithin c.args.rules.now (map asked_of c.args.guards.now) c.count-first.result) c.in-Some.is c.in_ok-counted.ensures in
    outcome_made c.args.rules.now (map asked_of c.args.guards.now) (length c.args.atoms.now) c.in-Some.counted counted'.0 (counted'.1 ∙ c.count-first.ensures.count) counted'.2 c.in_ok-made.field-0 c.in_ok-made.ensures
    ∙ ap (λ (z : Option Simplified). ok_or z TooManyVisible) c.in-Some-2.is

pub returns-clause-sound : goal.returns-clause-sound
returns-clause-sound c =
    let counted' = subst (IsCountedWithin c.args.rules.now (map asked_of c.args.guards.now) c.count-first.result) c.in-Some.is c.in_ok-counted.ensures in
    sound_made c.args.rules.now (map asked_of c.args.guards.now) (length c.args.atoms.now) c.in-Some.counted counted'.0 (counted'.1 ∙ c.count-first.ensures.count) counted'.2 c.requires.rules_over c.requires.guards_over c.requires.few_nodes
    c.in-Some-2.made (sym c.in-Some-2.is ∙ c.in_ok-made.ensures)
