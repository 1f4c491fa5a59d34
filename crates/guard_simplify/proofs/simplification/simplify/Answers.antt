use Rattle.std.proofs.Common.{◌≡◌, List, length, map, All, sym, subst, ap, ◌∙◌}
use Rattle.guard_sem.specs.Guards.{Guard}
use Rattle.guard_simplify.specs.Asked.{asked_of}
use Rattle.guard_simplify.specs.Law.{IsOver}
use Rattle.guard_simplify.specs.Outcome.{simplified, Gives}
use Rattle.guard_simplify.proofs.Outcomes.{err_gives}
use Rattle.guard_simplify.proofs.simplification.simplify.Goals as goal

pub returns-in_err-asked-clause-system : goal.returns-in_err-asked-clause-system
returns-in_err-asked-clause-system c = err_gives c.from_residual.result (simplified c.args.rules.now c.args.guards.now (length c.args.atoms.now)) c.from_residual.ensures.1

pub simplify_asked-requires-clause-guards_over : goal.simplify_asked-requires-clause-guards_over
simplify_asked-requires-clause-guards_over c =
    subst (λ (z : List Guard). All (IsOver (length c.args.atoms.now)) z) (sym (ap (map asked_of) c.deref.ensures.value ∙ c.in_ok-asked.ensures)) c.requires.guards_over

pub returns-clause-system : goal.returns-clause-system
returns-clause-system c =
    subst (λ (z : List Guard). Gives c.simplify_asked.result (simplified c.args.rules.now z (length c.args.atoms.now))) (ap (map asked_of) c.deref.ensures.value ∙ c.in_ok-asked.ensures) c.simplify_asked.ensures.system
