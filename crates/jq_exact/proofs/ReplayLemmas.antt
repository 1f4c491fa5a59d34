-- What the answer to a replay of exact steps says.
use Rattle.std.proofs.Common.{◌≡◌, ℕ, zero, suc, ◌<◌, ◌≤◌, nat_lt, true, List, [], ◌∷◌, length, take, get_or, slice_get, Some, Result, Ok, Err, OnOk, IfErr, refl, sym, ap, ◌∙◌, subst, arith}
use Rattle.std.proofs.lemmas.Bool.{ltb-true}
use Rattle.tree_sem.specs.Actions.{act}
use Rattle.tree_sem.specs.Replays.{step_of}
use Rattle.tree_sem.specs.Series.{FitsAfter, IsTooLarge, end_by}
use Rattle.tree_sem.specs.Trees.{LabelTree, count_of}
use Rattle.tree_sem.specs.declared.actions.Step.{Step}
use Rattle.tree_sem.specs.declared.tree_fault.TheConstants.{MOST_NODES}
use Rattle.tree_sem.proofs.SeriesLemmas.{can_legal}
use Rattle.jq_sem.specs.Reachability.{after_statement, end_of}
use Rattle.jq_stmts.specs.declared.sharp.ExactStmt.{ExactStmt}
use Rattle.jq_stmts.specs.Sharp.{ExactStatement, wide_of, wides}
use Rattle.jq_stmts.specs.SharpViews.{exact_of, exacts_of}
use Rattle.tree_sem.specs.declared.replay_fault.ReplayFault.{ReplayFault}
use Rattle.tree_sem.specs.declared.replay_fault.ReplayFault.TheVariants.{IllegalStep, TooManyNodes, Memory}
use Rattle.jq_exact.specs.Exact.{SelectedExactly, IsLegalExactly, after_exact_step, AreLegalExactly}
use Rattle.jq_exact.specs.Replays.{IsReplay}

-- the tree after the steps is that of the statements that are judged
pub same_end : (S : List ExactStatement) (steps : List Step) (t : LabelTree) → end_by after_exact_step t S steps ≡ end_of t (wides S) steps
same_end S [] t = refl
same_end S (s ∷ steps) t = same_end S steps (after_exact_step t S s)

module _ (S : List ExactStatement) (t : LabelTree) (steps : List Step) (new : LabelTree) where
  pub are_legal : (r : Result (Unit {0}) ReplayFault) → IsReplay t S steps new r → OnOk r (AreLegalExactly t S steps)
  are_legal (Ok done) is = can_legal IsLegalExactly after_exact_step S steps t is.0
  are_legal (Err e) is = tt

  pub ends : (r : Result (Unit {0}) ReplayFault) → IsReplay t S steps new r → OnOk r (new ≡ end_of t (wides S) steps)
  ends (Ok done) is = is.1 ∙ same_end S steps t
  ends (Err e) is = tt

  pub left : (r : Result (Unit {0}) ReplayFault) → IsReplay t S steps new r → IfErr r (λ e. new ≡ end_of t (wides S) (take (step_of e) steps))
  left (Ok done) is = tt
  left (Err (IllegalStep i)) is = is.1 ∙ same_end S (take i steps) t
  left (Err (TooManyNodes i)) is = is.1 ∙ same_end S (take i steps) t
  left (Err (Memory i)) is = is.2 ∙ same_end S (take i steps) t

-- ---- one step

-- the statement of a number
there_exact : (stmts : List ExactStmt) (n : ℕ) (s : ExactStmt) → n < length stmts → s ≡ get_or stmts n s → slice_get (exacts_of stmts) n ≡ Some (exact_of s)
there_exact [] n s lt is = absurd (omega arith)
there_exact (x ∷ stmts) zero s lt is = ap (λ z. Some (exact_of z)) (sym is)
there_exact (x ∷ stmts) (suc n) s lt is = there_exact stmts n s (omega arith) is

there_wide : (stmts : List ExactStmt) (n : ℕ) (s : ExactStmt) → n < length stmts → s ≡ get_or stmts n s → slice_get (wides (exacts_of stmts)) n ≡ Some (wide_of (exact_of s))
there_wide [] n s lt is = absurd (omega arith)
there_wide (x ∷ stmts) zero s lt is = ap (λ z. Some (wide_of (exact_of z))) (sym is)
there_wide (x ∷ stmts) (suc n) s lt is = there_wide stmts n s (omega arith) is

module _ (stmts : List ExactStmt) (t : LabelTree) (step : Step) (s : ExactStmt) (there : true ≡ nat_lt step.stmt (length stmts)) (is : s ≡ get_or stmts step.stmt s) (on : SelectedExactly t (exact_of s) step.at) where
  is_legal : IsLegalExactly t (exacts_of stmts) step
  is_legal = let at = there_exact stmts step.stmt s (ltb-true step.stmt (length stmts) (sym there)) is in rw at on

  -- what the step makes of the tree is what its action makes of it
  made : after_exact_step t (exacts_of stmts) step ≡ act s.wide.action step.at t
  made = ap (λ o. after_statement o step.at t) (there_wide stmts step.stmt s (ltb-true step.stmt (length stmts) (sym there)) is)

  pub taken : (new : LabelTree) → new ≡ act s.wide.action step.at t → count_of (act s.wide.action step.at t) ≤ MOST_NODES
      → IsLegalExactly t (exacts_of stmts) step × FitsAfter after_exact_step t (exacts_of stmts) step × (new ≡ after_exact_step t (exacts_of stmts) step)
  taken new same fits = (is_legal, subst (λ (u : LabelTree). count_of u ≤ MOST_NODES) (sym made) fits, same ∙ sym made)

  pub too_large : MOST_NODES < count_of (act s.wide.action step.at t) → IsLegalExactly t (exacts_of stmts) step × IsTooLarge after_exact_step t (exacts_of stmts) step
  too_large large = (is_legal, subst (λ (u : LabelTree). MOST_NODES < count_of u) (sym made) large)
