-- What the answer to a list of changes says of those that can't be made.
use Rattle.std.proofs.Common.{◌≡◌, ◌⊎◌, ℕ, List, Result, Ok, Err, OnOk, IsErrOf, refl, ap, subst, inl, inr}
use Rattle.tree_sem.specs.Replays.{IsReplay}
use Rattle.tree_sem.specs.Series.{AreLegalBy, IsIllegalAt, IsFullAt}
use Rattle.tree_sem.specs.Trees.{LabelTree}
use Rattle.tree_sem.specs.declared.replay_fault.ReplayFault.{ReplayFault}
use Rattle.tree_sem.specs.declared.replay_fault.ReplayFault.TheVariants.{IllegalStep, TooManyNodes, Memory}
use Rattle.tree_sem.proofs.SeriesLemmas.{can_legal, stuck_illegal, stuck_full, one_stuck, not_all_taken, not_both}

module _ {X E : Type 0} (Legal : LabelTree → X → E → Type 0) (after : LabelTree → X → E → LabelTree) (x : X) (t : LabelTree) (es : List E) (new : LabelTree) where
  pub are_legal : (r : Result (Unit {0}) ReplayFault) → IsReplay Legal after t x es new r → OnOk r (AreLegalBy Legal after t x es)
  are_legal (Ok done) is = can_legal Legal after x es t is.0
  are_legal (Err e) is = tt

  pub illegal_refused : (r : Result (Unit {0}) ReplayFault) (i : ℕ) → IsReplay Legal after t x es new r → IsIllegalAt Legal after t x es i → IsErrOf r (IllegalStep i) ⊎ ((j : ℕ) × IsErrOf r (Memory j))
  illegal_refused (Ok done) i is at = absurd (not_all_taken Legal after x t es i (stuck_illegal Legal after x t es i at) is.0)
  illegal_refused (Err (IllegalStep j)) i is at =
      let same : j ≡ i = one_stuck Legal after x t es j i (stuck_illegal Legal after x t es j is.0) is.0.before (stuck_illegal Legal after x t es i at) at.before in
      inl (ap (λ k. Err (IllegalStep k)) same)
  illegal_refused (Err (TooManyNodes j)) i is at =
      let same : j ≡ i = one_stuck Legal after x t es j i (stuck_full Legal after x t es j is.0) is.0.before (stuck_illegal Legal after x t es i at) at.before in
      absurd (not_both Legal after x t es i at (subst (IsFullAt Legal after t x es) same is.0))
  illegal_refused (Err (Memory j)) i is at = inr (j, refl)

  pub full_refused : (r : Result (Unit {0}) ReplayFault) (i : ℕ) → IsReplay Legal after t x es new r → IsFullAt Legal after t x es i → IsErrOf r (TooManyNodes i) ⊎ ((j : ℕ) × IsErrOf r (Memory j))
  full_refused (Ok done) i is at = absurd (not_all_taken Legal after x t es i (stuck_full Legal after x t es i at) is.0)
  full_refused (Err (IllegalStep j)) i is at =
      let same : j ≡ i = one_stuck Legal after x t es j i (stuck_illegal Legal after x t es j is.0) is.0.before (stuck_full Legal after x t es i at) at.before in
      absurd (not_both Legal after x t es i (subst (IsIllegalAt Legal after t x es) same is.0) at)
  full_refused (Err (TooManyNodes j)) i is at =
      let same : j ≡ i = one_stuck Legal after x t es j i (stuck_full Legal after x t es j is.0) is.0.before (stuck_full Legal after x t es i at) at.before in
      inl (ap (λ k. Err (TooManyNodes k)) same)
  full_refused (Err (Memory j)) i is at = inr (j, refl)
