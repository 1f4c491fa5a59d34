-- What a loss says: it is done where what is lost is there, and else nothing changes.
use Rattle.std.proofs.Common.{◌≡◌, ◌↔◌, ℕ, ◌≤◌, Bool, true, false, List, [], ◌∷◌, Option, Some, None, IsSome, Ok, Err, refl, sym, ◌∙◌, subst}
use Rattle.tree_sem.specs.declared.actions.Event.{Event}
use Rattle.tree_sem.specs.declared.actions.Event.TheVariants.{Take, Cut}
use Rattle.tree_sem.specs.declared.tree_fault.TheConstants.{MOST_NODES}
use Rattle.tree_sem.specs.Cuts.{take_class}
use Rattle.tree_sem.specs.Trees.{LabelTree, node_at, count_of}
use Rattle.tree_sem.proofs.EditLemmas.{edit_at-none}
use Rattle.tree_sem.proofs.LossLemmas.{cut_at-none}
use Rattle.jq_stmts.specs.Statements.{Statement}
use Rattle.jq_sem.specs.Events.{IsLoss, IsLegalEvent, after_event}
use Rattle.tree_sem.specs.declared.replay_fault.ReplayFault.TheVariants.{IllegalStep}
use Rattle.tree_sem.specs.Replays.{IsStep}

not_there : (o : Option LabelTree) → ¬ IsSome o → o ≡ None
not_there None none = refl
not_there (Some s) none = absurd (none refl)

nothing_lost : (t : LabelTree) (e : Event) → IsLoss e → ¬ IsLegalEvent t [] e → after_event t [] e ≡ t
nothing_lost t (Take v a) loss not = edit_at-none v (take_class a) t (not_there (node_at v t) not)
nothing_lost t (Cut []) loss not = refl
nothing_lost t (Cut (k ∷ v)) loss not = cut_at-none (k ∷ v) t (not_there (node_at (k ∷ v) t) (λ is. not (is, λ e. cc)))
nothing_lost t e loss not = absurd loss

same_legal : (t : LabelTree) (stmts : List Statement) (e : Event) → IsLoss e → IsLegalEvent t [] e ↔ IsLegalEvent t stmts e
same_legal t stmts (Take v a) loss = (λ is. is, λ is. is)
same_legal t stmts (Cut v) loss = (λ is. is, λ is. is)
same_legal t stmts e loss = absurd loss

same_after : (t : LabelTree) (stmts : List Statement) (e : Event) → IsLoss e → after_event t [] e ≡ after_event t stmts e
same_after t stmts (Take v a) loss = refl
same_after t stmts (Cut v) loss = refl
same_after t stmts e loss = absurd loss

module _ (t new : LabelTree) (stmts : List Statement) (e : Event) (loss : IsLoss e) (done : Bool) (taken : new ≡ after_event t [] e) (test : (done ≡ true) ↔ IsLegalEvent t [] e) where
  pub lost : (event : Event) → event ≡ e → count_of new ≤ MOST_NODES → done ≡ true → (i : ℕ) → IsStep IsLegalEvent after_event t stmts event i new (Ok tt)
  lost event is few on i =
      let made : new ≡ after_event t stmts e = taken ∙ same_after t stmts e loss in
      let fits : count_of (after_event t stmts e) ≤ MOST_NODES = subst (λ (z : LabelTree). count_of z ≤ MOST_NODES) made few in
      subst (λ (z : Event). IsStep IsLegalEvent after_event t stmts z i new (Ok tt)) (sym is) ((same_legal t stmts e loss).0 (test.0 on), fits, made)

  pub kept : (event : Event) → event ≡ e → done ≡ false → (i : ℕ) → IsStep IsLegalEvent after_event t stmts event i new (Err (IllegalStep i))
  kept event is off i =
      let not : ¬ IsLegalEvent t [] e = λ legal. let on = test.1 legal in cc in
      subst (λ (z : Event). IsStep IsLegalEvent after_event t stmts z i new (Err (IllegalStep i))) (sym is)
      ((λ legal. not ((same_legal t stmts e loss).1 legal)), refl, taken ∙ nothing_lost t e loss not)
