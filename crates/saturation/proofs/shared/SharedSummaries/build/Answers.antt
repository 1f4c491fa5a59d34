use Rattle.std.proofs.Common.{refl, subst}
use Rattle.simple_core.specs.declared.summaries.GainFault.TheVariants.{Spent}
use Rattle.saturation.specs.Budgets.{MayBeSpent, HasToBeSpent}
use Rattle.saturation.proofs.BuildLemmas.{summaries_built}
use Rattle.saturation.proofs.RoundLemmas.{error_passed}
use Rattle.saturation.proofs.shared.SharedSummaries.build.Goals as goal

pub invariant_of-result : goal.invariant_of-result
invariant_of-result c = summaries_built c.args.system.now c.in_ok-copied.copied.system c.in_ok-copied.copied.atoms c.all_rounds.new.diagrams c.in_ok-ended.ended.cells c.in_ok-ended.ended.histories
    c.in_ok-copied.copied.rows c.in_ok-copied.ensures.same c.requires.sound c.in_ok-copied.ensures.given c.in_ok-ended.ensures.inside c.in_ok-ended.ensures.built c.in_ok-copied.ensures.rows c.in_ok-copied.ensures.gates

pub returns-in_err-ended-clause-spent : goal.returns-in_err-ended-clause-spent
returns-in_err-ended-clause-spent c spent = subst (λ n. MayBeSpent c.args.system.now n) c.in_ok-diagrams.ensures.limit
    (c.in_err-ended.ensures.spent (error_passed c.from_residual-in_err-ended.result c.in_err-ended.field-0.0 Spent c.from_residual-in_err-ended.ensures.1 spent))

pub returns-clause-whole : goal.returns-clause-whole
returns-clause-whole c _ = subst (λ n. ¬ HasToBeSpent c.args.system.now n) c.in_ok-diagrams.ensures.limit (c.in_ok-ended.ensures.whole refl)

pub returns-clause-work : goal.returns-clause-work
returns-clause-work c = c.in_ok-ended.ensures.built.work

pub returns-clause-cells : goal.returns-clause-cells
returns-clause-cells c = c.in_ok-ended.ensures.built.whole

pub copy_of-requires-clause-inside : goal.copy_of-requires-clause-inside
copy_of-requires-clause-inside c j a kind = (c.in_ok-ended.ensures.built.told j a kind).inside
