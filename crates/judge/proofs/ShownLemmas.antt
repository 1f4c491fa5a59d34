-- What is shown of a proof, and what is said of an atom by whether the root has it.
use Rattle.std.proofs.Common.{◌≡◌, ◌↔◌, ℕ, ◌<◌, true, List, length, Some, Result, Ok, Err, IfOk, IsErrOf, sym, subst, inl, inr}
use Rattle.std.proofs.lemmas.Bool.{cases_lt}
use Rattle.tp_base.specs.Classes.{has_class}
use Rattle.tree_sem.specs.declared.actions.Step.{Step}
use Rattle.tree_sem.specs.Trees.{LabelTree}
use Rattle.proof_check.specs.declared.unfolded.Unfolded.{Unfolded}
use Rattle.proof_core.specs.declared.unfolded.UnfoldFault.{UnfoldFault}
use Rattle.proof_core.specs.declared.unfolded.UnfoldFault.TheVariants.{OverLimit}
use Rattle.usage_report.specs.declared.answers.Answer as code
use Rattle.usage_report.specs.Views.{answer_of}
use Rattle.simple_core.specs.declared.system.System.{System}
use Rattle.limits.specs.declared.budgets.Limits.{Limits}
use Rattle.judge.specs.Answers.{IsShown}
use Rattle.judge.specs.BySeen.{IsSaidProved, IsSaidWhere, IsSaid}

module _ (t : List Step × List ℕ) (list : ℕ) where
  pub is_shown : (r : Result Unfolded UnfoldFault) (u : Unfolded) → r ≡ Ok u → u.steps ≡ t.0 → u.at ≡ t.1 → (IsErrOf r OverLimit ↔ (list < length t.0)) → IsShown t list (Some u)
  is_shown r u is steps at over = elim (cases_lt list (length t.0)) [
    | inl more ↦ let none : Ok u ≡ Err OverLimit = subst (λ (z : Result Unfolded UnfoldFault). z ≡ Err OverLimit) is (over.1 more) in absurd (cc)
    | inr few ↦ (few, steps, at)
  ]

module _ {E : Type 0} (s : System) (page : LabelTree) (limits : Limits) (label : List ℕ) (a : ℕ) where
  pub said_seen : (r : Result code.Answer E) → has_class a label ≡ true → IfOk r (λ x. IsSaidProved s page limits a (answer_of x)) → IfOk r (λ x. IsSaid s page limits label a (answer_of x))
  said_seen r has said = subst (λ z. IfOk r (λ x. IsSaidWhere s page limits z a (answer_of x))) (sym has) said
