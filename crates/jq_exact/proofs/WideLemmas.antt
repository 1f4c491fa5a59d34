-- What is selected exactly is selected by the statement that is judged in its place.
use Rattle.std.proofs.Common.{◌≡◌, ◌⊎◌, ℕ, zero, suc, List, [], ◌∷◌, ◌++◌, map, reverse, Option, Some, None, IsSomeAnd, slice_get, refl, sym, ap, ◌∙◌, subst, inl, inr, append-nil}
use mathlib.Core.List.{reverse_aux}
use Rattle.tree_sem.specs.Nodes.{IsNode}
use Rattle.tree_sem.specs.Trees.{LabelTree}
use Rattle.tree_sem.specs.declared.actions.Event.{Event}
use Rattle.tree_sem.specs.declared.actions.Event.TheVariants.{Step, Take, Cut}
use Rattle.tree_sem.proofs.NodeLemmas.{HasAtoms-none}
use Rattle.sel_text.specs.Selectors.{Selector}
use Rattle.jq_sem.specs.Statements as script
use Rattle.jq_sem.specs.Statements.{IsMade, InRoot, InCalls, SelectedUnder}
use Rattle.jq_stmts.specs.Statements.{Root, Call, back}
use Rattle.jq_sem.specs.Events.{IsLegalEvent, after_event, AreLegalEvents}
use Rattle.jq_sem.specs.Reachability.{after_step}
use Rattle.jq_stmts.specs.Sharp.{ExactCall, plain, closest, siblings, first, ExactChain, ExactStatement, wide_call, wide_chain, wides}
use Rattle.jq_sem.proofs.SelectionLemmas.{InCalls-node}
use Rattle.jq_sem.proofs.TogetherLemmas.{made_larger}
use Rattle.jq_exact.specs.Exact.{IsMadeExactly, MadeExactly, set_before, stands, InExactly, UnderExactly, SelectedExactly}
use Rattle.jq_exact.specs.Events.{IsLegalExactEvent, AreLegalExactEvents}
use Rattle.jq_exact.specs.Laws.{IsNarrower, AreNarrower, ReachesLess}

made_wide : (t : LabelTree) (S L : List ℕ → Type 0) → ((v : List ℕ) → L v → IsNode t v) → ((v : List ℕ) → S v → L v) → (c : ExactCall) (v : List ℕ) → IsMadeExactly t S c v → IsMade t L (wide_call c) v
made_wide t S L node larger (plain c) v m = made_larger t S L larger c v m
made_wide t S L node larger (closest cs) v m = (
  m.0,
  elim m.1 as (λ q. S (v ++ q) → L v ⊎ ((k : ℕ) × (q : List ℕ) × L (v ++ k ∷ q))) [
    | [] ↦ λ here. inl (larger v (subst S (append-nil v) here))
    | k ∷ q ↦ λ below. inr (k, q, larger (v ++ k ∷ q) below)
  ] m.2,
)
made_wide t S L node larger (siblings cs) v m = let other = m.1 in (m.0, other.0, other.1, other.2, other.3, larger (other.1 ++ other.3 ∷ []) other.5)
made_wide t S L node larger first v m = let is = larger v m.0 in (inl (HasAtoms-none t v (node v is)), is)

calls_wide : (t : LabelTree) (u : Option (List ℕ)) (root : Root) (calls : List ExactCall) (v : List ℕ) → MadeExactly t (InRoot t u root) calls v → InCalls t u root (map wide_call calls) v
calls_wide t u root [] v m = m
calls_wide t u root (c ∷ earlier) v m =
    made_wide t (MadeExactly t (InRoot t u root) earlier) (InCalls t u root (map wide_call earlier)) (InCalls-node t u root (map wide_call earlier)) (calls_wide t u root earlier) c v m

-- the calls that stand are the same
before_wide : (n : ℕ) (root : Root) (calls : List ExactCall) → let s = set_before n root calls in script.set_before n root (map wide_call calls) ≡ (s.0, map wide_call s.1)
before_wide n root (plain back ∷ earlier) = before_wide (suc n) root earlier
before_wide (suc n) root (c ∷ earlier) = before_wide n root earlier
before_wide (suc n) root [] = refl
before_wide zero root (c ∷ earlier) = ap (λ (s : Root × List Call). (s.0, wide_call c ∷ s.1)) (before_wide zero root earlier)
before_wide zero root [] = refl

reversed_wide : (calls others : List ExactCall) → reverse_aux (map wide_call calls) (map wide_call others) ≡ map wide_call (reverse_aux calls others)
reversed_wide [] others = refl
reversed_wide (c ∷ calls) others = reversed_wide calls (c ∷ others)

pub stands_wide : (root : Root) (calls : List ExactCall) → let s = stands root calls in script.stands root (map wide_call calls) ≡ (s.0, map wide_call s.1)
stands_wide root calls = ap (script.set_before zero root) (reversed_wide calls []) ∙ before_wide zero root (reverse calls)

in_wide : (t : LabelTree) (u : Option (List ℕ)) (chain : ExactChain) (v : List ℕ) → InExactly t u chain v → script.In t u (wide_chain chain) v
in_wide t u chain v m =
    let s = stands chain.root chain.calls in
    subst (λ (z : Root × List Call). InCalls t u z.0 z.1 v) (sym (stands_wide chain.root chain.calls)) (calls_wide t u s.0 s.1 v m)

under_wide : (t : LabelTree) (handlers : List ExactChain) (chain : ExactChain) (u : Option (List ℕ)) (v : List ℕ) → UnderExactly t u handlers chain v → SelectedUnder t u (map wide_chain handlers) (wide_chain chain) v
under_wide t [] chain u v m = in_wide t u chain v m
under_wide t (h ∷ handlers) chain u v m = (m.0, in_wide t u h m.0 m.1, under_wide t handlers chain (Some m.0) v m.2)

pub selected_wide : (t : LabelTree) (s : ExactStatement) → IsNarrower t s
selected_wide t s v m = under_wide t s.handlers s.chain None v m

legal_wide : (t : LabelTree) (stmts : List ExactStatement) (n : ℕ) (v : List ℕ) → IsSomeAnd (slice_get stmts n) (λ s. SelectedExactly t s v) → IsSomeAnd (slice_get (wides stmts) n) (λ s. script.Selected t s v)
legal_wide t [] n v legal = absurd legal
legal_wide t (s ∷ stmts) zero v legal = selected_wide t s v legal
legal_wide t (s ∷ stmts) (suc n) v legal = legal_wide t stmts n v legal

pub steps_wide : (t : LabelTree) (stmts : List ExactStatement) → AreNarrower t stmts
steps_wide t stmts [] legal = tt
steps_wide t stmts (s ∷ steps) legal = (legal_wide t stmts s.stmt s.at legal.0, steps_wide (after_step t (wides stmts) s) stmts steps legal.1)

event_wide : (t : LabelTree) (stmts : List ExactStatement) (e : Event) → IsLegalExactEvent t stmts e → IsLegalEvent t (wides stmts) e
event_wide t stmts (Step s) legal = legal_wide t stmts s.stmt s.at legal
event_wide t stmts (Take v a) legal = legal
event_wide t stmts (Cut v) legal = legal

pub events_wide : (t : LabelTree) (stmts : List ExactStatement) (events : List Event) → AreLegalExactEvents t stmts events → AreLegalEvents t (wides stmts) events
events_wide t stmts [] legal = tt
events_wide t stmts (e ∷ events) legal = (event_wide t stmts e legal.0, events_wide (after_event t (wides stmts) e) stmts events legal.1)

pub reaches_less : (t : LabelTree) (stmts : List ExactStatement) (s : Selector) → ReachesLess t stmts s
reaches_less t stmts s (events, legal, v, is) = (events, events_wide t stmts events legal, v, is)
