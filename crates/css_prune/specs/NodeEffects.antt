-- What a sheet does at the nodes of a page: at no node that a script makes does it do more than what is left of it.
--     Tells             a test tells which selectors match a node
--     AreUnreached      no events lead to a node that a flagged selector matches
--     KeepsEffects      so the sheet and what is left of it do the same at each node of each tree that events lead to
use Rattle.std.specs.Prelude.{◌≡◌, ◌↔◌, ℕ, Bool, true, false, List, [], ◌∷◌, length, Ok}
use Rattle.tp_base.specs.Names.{Named}
use Rattle.tree_sem.specs.Trees.{LabelTree}
use Rattle.tree_sem.specs.declared.actions.Event.{Event}
use Rattle.sel_core.specs.Selectors.{Matches}
use Rattle.sel_text.specs.Selectors.{Selector}
use Rattle.jq_sem.specs.Events.{AreLegalEvents, end_of_events, ReachesWithLosses}
use Rattle.jq_stmts.specs.Statements.{Statement}
use Rattle.css_read.specs.Effects.{effect}
use Rattle.css_read.specs.Pruned.{Flagged, with_flags, pruned}
use Rattle.css_read.specs.Reading.{read_sheet}
use Rattle.css_read.specs.Sheets.{Outcome, judged, skipped, Sheet}

abbrev pub Tells : LabelTree → List ℕ → (Selector → Bool) → Type 0
Tells t v test = (s : Selector) → (test s ≡ true) ↔ Matches t v s

-- ---- a page, and the statements of its script
module _ (page : LabelTree) (stmts : List Statement) where
  abbrev pub IsUnreached : Outcome → Type 0
  IsUnreached (judged s) = ¬ ReachesWithLosses page stmts s
  IsUnreached (skipped why at) = Unit {0}

  abbrev pub AreUnreached : List Flagged → Type 0
  AreUnreached [] = Unit {0}
  AreUnreached ((i, false) ∷ fs) = AreUnreached fs
  AreUnreached ((i, true) ∷ fs) = IsUnreached i.outcome × AreUnreached fs

  -- `again` is read of what is left of the sheet's text
  abbrev pub KeepsEffects : List ℕ → Type 0
  KeepsEffects text =
      (names later : List Named) (sheet again : Sheet) (flags : List Bool) → read_sheet text names ≡ (later, Ok sheet) → length flags ≡ length sheet.items → read_sheet (pruned text sheet flags) later ≡ (later, Ok again)
      → AreUnreached (with_flags sheet.items flags) → (events : List Event) → AreLegalEvents page stmts events → (v : List ℕ) (test : Selector → Bool) → Tells (end_of_events page stmts events) v test
      → effect test (pruned text sheet flags) again ≡ effect test text sheet
