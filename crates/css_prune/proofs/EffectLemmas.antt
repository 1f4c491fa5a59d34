-- What is left of a sheet does what the sheet does at each node that a script makes, where what goes is never reached.
use Rattle.std.proofs.Common.{◌≡◌, ◌↔◌, ℕ, Bool, true, false, List, [], ◌∷◌, Result, Ok, refl, sym, ap, ◌∙◌, inl, inr}
use Rattle.std.proofs.lemmas.Bool.{false_from_ne_true}
use Rattle.tp_base.specs.Names.{Named}
use Rattle.tree_sem.specs.Trees.{LabelTree}
use Rattle.tree_sem.specs.declared.actions.Event.{Event}
use Rattle.sel_core.specs.Selectors.{Matches}
use Rattle.sel_text.specs.Selectors.{Selector}
use Rattle.jq_sem.specs.Events.{AreLegalEvents, end_of_events}
use Rattle.jq_stmts.specs.Statements.{Statement}
use Rattle.jq_sem.proofs.DecidedSelections.{Decided, match}
use Rattle.css_read.specs.Effects.{effect, FailsTest, AllFail}
use Rattle.css_read.specs.Pruned.{Flagged, with_flags, pruned}
use Rattle.css_read.specs.Reading.{Ending}
use Rattle.css_read.specs.Sheets.{Outcome, judged, skipped, Sheet}
use Rattle.css_read.specs.declared.faults.SheetFault.{SheetFault}
use Rattle.css_read.proofs.KeptLemmas.{sheets_kept}
use Rattle.css_prune.specs.NodeEffects.{Tells, IsUnreached, AreUnreached, KeepsEffects}

-- ---- such a test there is

unfoldable is_match : {P : Type 0} → Decided P → Bool
is_match (inl holds) = true
is_match (inr none) = false

told_by : (P : Type 0) (d : Decided P) → (is_match d ≡ true) ↔ P
unfolding is_match
told_by P (inl holds) = ((λ is. holds), (λ p. refl))
told_by P (inr none) = ((λ is. absurd (wrong is)), (λ p. absurd (none p)))
  where
    wrong : false ≡ true → ⊥
    wrong same = cc

pub told : (t : LabelTree) (v : List ℕ) → (test : Selector → Bool) × Tells t v test
told t v = ((λ s. is_match (match t v s)), (λ s. told_by (Matches t v s) (match t v s)))

-- ---- it fails on what is never reached

all_fail : (page : LabelTree) (stmts : List Statement) (events : List Event) (v : List ℕ) (test : Selector → Bool) → AreLegalEvents page stmts events → Tells (end_of_events page stmts events) v test → (fs : List Flagged) → AreUnreached page stmts fs → AllFail test fs
all_fail page stmts events v test legal tells [] unreached = tt
all_fail page stmts events v test legal tells ((i, false) ∷ fs) unreached = (tt, all_fail page stmts events v test legal tells fs unreached)
all_fail page stmts events v test legal tells ((i, true) ∷ fs) unreached = (by i.outcome unreached.0, all_fail page stmts events v test legal tells fs unreached.1)
  where
    by : (o : Outcome) → IsUnreached page stmts o → FailsTest test (record { from = i.from; to = i.to; rule = i.rule; outcome = o }, true)
    by (judged s) none = false_from_ne_true (test s) (λ is. none (events, legal, v, (tells s).0 is))
    by (skipped why at) none = tt

same_sheet : (names : List Named) (a b : Sheet) → ◌≡◌ {A = Ending Sheet} (names, Ok a) (names, Ok b) → a ≡ b
same_sheet names a b is = same (ap (λ (e : Ending Sheet). e.1) is)
  where
    same : ◌≡◌ {A = Result Sheet SheetFault} (Ok a) (Ok b) → a ≡ b
    same is = cc

pub effects_kept : (page : LabelTree) (stmts : List Statement) (text : List ℕ) → KeepsEffects page stmts text
effects_kept page stmts text names later sheet again flags reads count reads_again unreached events legal v test tells =
    let kept = sheets_kept text names later sheet flags reads count in
    let same : kept.0 ≡ again = same_sheet later kept.0 again (sym kept.1.reads ∙ reads_again) in
    ap (effect test (pruned text sheet flags)) (sym same) ∙ kept.1.effects test (all_fail page stmts events v test legal tells (with_flags sheet.items flags) unreached)
