-- A text that was read twice, with other names in the table before: what is left of it is the same by both readings.
--     IsPrunedAlike      the same flags leave the same text
--     IsReadAgain        what is left by one reading is read again with the names of the other
--     KeepsPageEffects   and does what the sheet does that is the other one
use Rattle.std.specs.Prelude.{◌≡◌, ℕ, Bool, List, length, Ok}
use Rattle.tp_base.specs.Names.{Named}
use Rattle.tree_sem.specs.Trees.{LabelTree}
use Rattle.tree_sem.specs.declared.actions.Event.{Event}
use Rattle.sel_text.specs.Selectors.{Selector}
use Rattle.jq_sem.specs.Events.{AreLegalEvents, end_of_events}
use Rattle.jq_stmts.specs.Statements.{Statement}
use Rattle.css_read.specs.Effects.{effect}
use Rattle.css_read.specs.Pruned.{with_flags, pruned}
use Rattle.css_read.specs.Reading.{read_sheet}
use Rattle.css_read.specs.Sheets.{Sheet}
use Rattle.css_prune.specs.NodeEffects.{Tells, AreUnreached}

abbrev pub IsPrunedAlike : List ℕ → Type 0
IsPrunedAlike text = (names others later last : List Named) (sheet other : Sheet) (flags : List Bool) → read_sheet text names ≡ (later, Ok sheet) → read_sheet text others ≡ (last, Ok other) → pruned text sheet flags ≡ pruned text other flags

-- ---- a text that is read with a page's names, and pruned as it is read with others

abbrev pub IsReadAgain : List ℕ → Type 0
IsReadAgain text =
    (names others later last : List Named) (sheet other : Sheet) (flags : List Bool) → read_sheet text names ≡ (later, Ok sheet) → read_sheet text others ≡ (last, Ok other) → length flags ≡ length other.items
    → (again : Sheet) × (read_sheet (pruned text other flags) later ≡ (later, Ok again))

abbrev pub KeepsPageEffects : LabelTree → List Statement → List ℕ → Type 0
KeepsPageEffects page stmts text =
    (names others later last : List Named) (sheet other again : Sheet) (flags : List Bool) → read_sheet text names ≡ (later, Ok sheet) → read_sheet text others ≡ (last, Ok other) → length flags ≡ length other.items
    → read_sheet (pruned text other flags) later ≡ (later, Ok again) → AreUnreached page stmts (with_flags sheet.items flags) → (events : List Event) → AreLegalEvents page stmts events → (v : List ℕ) (test : Selector → Bool)
    → Tells (end_of_events page stmts events) v test → effect test (pruned text other flags) again ≡ effect test text sheet
