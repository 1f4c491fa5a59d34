-- Legal events of covered statements are edits.
use Rattle.std.proofs.Common.{◌≡◌, ℕ, List, [], ◌∷◌, Some, None, IsSomeAnd, Contains, refl, sym, subst, inl, inr}
use Rattle.std.specs.Prelude.{slice_get}
use Rattle.tp_base.proofs.Rising.{Contains-cons, Contains-none}
use Rattle.tp_base.proofs.Lists.{Contains-at}
use Rattle.tree_sem.specs.Cuts.{take_class, cut_at}
use Rattle.tree_sem.specs.Trees.{LabelTree, leaf, edit_at}
use Rattle.tree_sem.specs.declared.actions.Action.{Action}
use Rattle.tree_sem.specs.declared.actions.Action.TheVariants.{Classes, Inside, Beside}
use Rattle.tree_sem.specs.declared.actions.Event.{Event}
use Rattle.tree_sem.specs.declared.actions.Event.TheVariants.{Step, Take, Cut}
use Rattle.tree_sem.specs.declared.actions.Step as step
use Rattle.jq_stmts.specs.Statements.{Statement}
use Rattle.jq_sem.specs.Events.{AreLegalEvents, end_of_events, ReachesWithLosses, events_of}
use Rattle.jq_sem.specs.Reachability.{IsLegal, AreLegal, end_of, after_statement, after_step, Reaches}
use Rattle.jq_sem.specs.Statements.{Selected}
use Rattle.jq_sem.proofs.SelectionLemmas.{Selected-node}
use Rattle.jq_sem.proofs.EventLemmas.{legal_as_events, end_of_steps}
use Rattle.sel_text.specs.Selectors.{Selector}
use Rattle.lower_cover.specs.Covering.{IsCovered, AreCovered, IsAllowedTree}
use Rattle.lower_cover.specs.Edits.{Edits, loses_atom, goes, begin, more}
use Rattle.lower_cover.specs.Outputs.{AsksOnly, SelectsAll, IsPut, AddsOrPuts, IsOutput}
use Rattle.lower_cover.proofs.EditLemmas.{edits_reach}
use Rattle.lower_cover.proofs.ValueLemmas.{do_action}

module _ (asked : List ℕ) (output stmts : List Statement) (page : LabelTree) (covered : AreCovered asked output stmts) where
  do_step : (s : step.Step) (t : LabelTree) → Edits asked output page t → IsLegal t stmts s → Edits asked output page (after_step t stmts s)
  do_step s t comes legal = elim (slice_get stmts s.stmt) as (λ o. slice_get stmts s.stmt ≡ o → IsSomeAnd o (λ x. Selected t x s.at) → Edits asked output page (after_statement o s.at t)) [
    | None ↦ λ e legal. comes
    | Some x ↦ λ e legal. do_action asked output page x.action t s.at comes (Selected-node t x s.at legal) (covered x (Contains-at stmts s.stmt x e))
  ] refl legal

  pub do_events : (events : List Event) (t : LabelTree) → Edits asked output page t → AreLegalEvents t stmts events → Edits asked output page (end_of_events t stmts events)
  do_events [] t comes legal = comes
  do_events (Step s ∷ events) t comes legal = do_events events (after_step t stmts s) (do_step s t comes legal.0) legal.1
  do_events (Take v a ∷ events) t comes legal = do_events events (edit_at v (take_class a) t) (more t (edit_at v (take_class a) t) comes (loses_atom t v a legal.0)) legal.1
  do_events (Cut v ∷ events) t comes legal = do_events events (cut_at v t) (more t (cut_at v t) comes (goes t v legal.0.0 legal.0.1)) legal.1

  pub covered_edits : (events : List Event) → AreLegalEvents page stmts events → Edits asked output page (end_of_events page stmts events)
  covered_edits events legal = do_events events page begin legal

  pub covered_reach : (s : Selector) → AsksOnly asked s → ReachesWithLosses page stmts s → Reaches page output s
  covered_reach s only reaches = edits_reach asked output page s only (end_of_events page stmts reaches.0, covered_edits reaches.0 reaches.1, reaches.2, reaches.3)

-- an output covers itself
module _ (asked : List ℕ) (stmts : List Statement) where
  leaf_made : (m : List ℕ) → IsPut stmts m → IsAllowedTree asked stmts (leaf m)
  leaf_made m puts [] l at = let same : m ≡ l = cc in (m, puts, λ a is has. inl (subst (λ z. Contains z a) (sym same) has))
  leaf_made m puts (k ∷ v) l at = cc

  covers_one : (s : Statement) → Contains stmts s → SelectsAll s → (a : Action) → s.action ≡ a → AddsOrPuts a → IsCovered asked stmts a
  covers_one s among all (Classes classes) is plain = λ a asks has. (s, among, all, rw is has)
  covers_one s among all (Inside forest) is (m, one) = λ y has.
      let puts : IsPut stmts m = (s, among, all, rw is one) in
      let has' : Contains (leaf m ∷ []) y = rw one at has in
      elim ((Contains-cons y (leaf m) []).0 has') [
        | inl same ↦ subst (IsAllowedTree asked stmts) (sym same) (leaf_made m puts)
        | inr none ↦ absurd (Contains-none y none)
      ]
  covers_one s among all (Beside forest) is plain = absurd plain

  covers_itself : IsOutput stmts → AreCovered asked stmts stmts
  covers_itself output s among = let of = output s among in covers_one s among of.0 s.action refl of.1

  -- so what it does are edits
  pub steps_edits : (page : LabelTree) → IsOutput stmts → (steps : List step.Step) → AreLegal page stmts steps → Edits asked stmts page (end_of page stmts steps)
  steps_edits page output steps legal =
      subst (Edits asked stmts page) (end_of_steps stmts steps page) (covered_edits asked stmts stmts page (covers_itself output) (events_of steps) ((legal_as_events stmts steps page).1 legal))
