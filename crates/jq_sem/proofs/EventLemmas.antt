-- What is reached with losses is reached without them: the tree with the losses stays within the one without.
use Rattle.std.proofs.Common.{◌≡◌, ◌↔◌, ℕ, List, [], ◌∷◌, Some, None, All, IsSomeAnd, slice_get, refl, sym, ap, subst}
use Rattle.std.proofs.lemmas.List.Elements.{All-nil, All-cons, All-head, All-tail}
use Rattle.tree_sem.specs.declared.actions.Step as step
use Rattle.tree_sem.specs.declared.actions.Event.{Event}
use Rattle.tree_sem.specs.declared.actions.Event.TheVariants.{Step, Take, Cut}
use Rattle.tree_sem.specs.Cuts.{take_class, cut_at}
use Rattle.tree_sem.specs.Embedding.{IsWithin}
use Rattle.tree_sem.specs.Trees.{LabelTree, edit_at}
use Rattle.tree_sem.proofs.BothLemmas.{act_both}
use Rattle.tree_sem.proofs.LossLemmas.{taken_within, cut_within}
use Rattle.tree_sem.proofs.WithinLemmas.{within_itself, within_both}
use Rattle.sel_core.specs.Selectors.{Matches}
use Rattle.sel_text.specs.Selectors.{Selector}
use Rattle.jq_sem.specs.Statements.{Selected}
use Rattle.jq_stmts.specs.Statements.{Statement}
use Rattle.jq_sem.specs.Reachability.{IsLegal, after_step, after_statement, end_of, AreLegal, Reaches}
use Rattle.jq_sem.specs.Events.{IsLoss, AreLegalEvents, end_of_events, ReachesWithLosses, events_of}
use Rattle.jq_sem.proofs.KeptLemmas.{match_kept, selection_kept}

module _ (stmts : List Statement) where
  abbrev pub moved : step.Step → List ℕ → step.Step
  moved s w = record { stmt = s.stmt; at = w }

  -- a step that is legal in a tree is legal at the image in a larger one, and leaves the one within the other
  pub step_both : (s : step.Step) (t u : LabelTree) → IsWithin t u → IsLegal t stmts s → (w : List ℕ) × IsLegal u stmts (moved s w) × IsWithin (after_step t stmts s) (after_step u stmts (moved s w))
  step_both s t u within legal = elim (slice_get stmts s.stmt) as (λ o. IsSomeAnd o (λ x. Selected t x s.at)
      → (w : List ℕ) × IsSomeAnd o (λ x. Selected u x w) × IsWithin (after_statement o s.at t) (after_statement o w u)) [
        | None ↦ λ legal. absurd legal
        | Some x ↦ λ legal.
            let kept = (selection_kept t u x).within within s.at legal in
            (kept.0, kept.2, act_both x.action s.at kept.0 t u kept.1)
      ] legal

  -- events have steps, at the images of their paths, that lead to a larger tree
  pub without_losses : (events : List Event) (t u : LabelTree) → IsWithin t u → AreLegalEvents t stmts events
      → (steps : List step.Step) × AreLegal u stmts steps × IsWithin (end_of_events t stmts events) (end_of u stmts steps)
  without_losses [] t u within legal = ([], tt, within)
  without_losses (Step s ∷ events) t u within legal =
      let first = step_both s t u within legal.0 in
      let rest = without_losses events (after_step t stmts s) (after_step u stmts (moved s first.0)) first.2 legal.1 in
      (moved s first.0 ∷ rest.0, (first.1, rest.1), rest.2)
  without_losses (Take v a ∷ events) t u within legal =
      let smaller = edit_at v (take_class a) t in
      without_losses events smaller u (within_both smaller t u (taken_within v a t legal.0) within) legal.1
  without_losses (Cut v ∷ events) t u within legal =
      without_losses events (cut_at v t) u (within_both (cut_at v t) t u (cut_within v t legal.0.0) within) legal.1

  -- steps are events, and lead to the same tree
  pub legal_as_events : (steps : List step.Step) (t : LabelTree) → AreLegalEvents t stmts (events_of steps) ↔ AreLegal t stmts steps
  legal_as_events [] t = (λ legal. legal, λ legal. legal)
  legal_as_events (s ∷ steps) t =
      let rest = legal_as_events steps (after_step t stmts s) in
      (λ legal. (legal.0, rest.0 legal.1), λ legal. (legal.0, rest.1 legal.1))

  pub end_of_steps : (steps : List step.Step) (t : LabelTree) → end_of_events t stmts (events_of steps) ≡ end_of t stmts steps
  end_of_steps [] t = refl
  end_of_steps (s ∷ steps) t = end_of_steps steps (after_step t stmts s)

  pub losses_reach_is : (t : LabelTree) (s : Selector) → ReachesWithLosses t stmts s ↔ Reaches t stmts s
  losses_reach_is t s = (
    λ reaches.
        let of = without_losses reaches.0 t t (within_itself t) reaches.1 in
        let kept = (match_kept (end_of_events t stmts reaches.0) (end_of t stmts of.0) s).within of.2 reaches.2 reaches.3 in
        (of.0, of.1, kept.0, kept.2),
    λ reaches. (
      events_of reaches.0,
      (legal_as_events reaches.0 t).1 reaches.1,
      reaches.2,
      subst (λ (z : LabelTree). Matches z reaches.2 s) (sym (end_of_steps reaches.0 t)) reaches.3,
    ),
  )

-- none of them is a loss
pub no_losses : (steps : List step.Step) → All (λ e. ¬ IsLoss e) (events_of steps)
no_losses [] = All-nil (λ e. ¬ IsLoss e)
no_losses (s ∷ steps) = All-cons (λ e. ¬ IsLoss e) (Step s) (events_of steps) (λ loss. loss) (no_losses steps)

-- and what are no losses are steps
pub steps_of : (events : List Event) → All (λ e. ¬ IsLoss e) events → (steps : List step.Step) × (events ≡ events_of steps)
steps_of [] none = ([], refl)
steps_of (Step s ∷ events) none =
    let rest = steps_of events (All-tail (λ e. ¬ IsLoss e) (Step s) events none) in
    (s ∷ rest.0, ap (λ es. Step s ∷ es) rest.1)
steps_of (Take v a ∷ events) none = absurd (All-head (λ e. ¬ IsLoss e) (Take v a) events none tt)
steps_of (Cut v ∷ events) none = absurd (All-head (λ e. ¬ IsLoss e) (Cut v) events none tt)
