-- The verdict on a statement, and its lines in the report.
--     Verdict           a statement is live, or dead, or a budget ran out
--     verdict_lines     the lines of all statements, by their verdicts
use Rattle.std.specs.Prelude.{ℕ, ◌+◌, Bool, true, false, List, [], ◌∷◌, ◌++◌, codes, map, Option, None}
use Rattle.std.specs.Fmt.{decimal}
use Rattle.tp_base.specs.declared.places.Place.{Place}
use Rattle.jq_stmts.specs.Statements.{Statement}
use Rattle.usage_report.specs.Lines.{Shown, place_text, count_text, shown_text}

-- Live after a number of steps, which may be shown, or after steps that can't be shown. Dead at a handler, counted from 1: the first
-- that never runs. Dead where all handlers run and the statement selects no node. Unknown where a budget ran out.
pub data Verdict : Type 0 where
  live : (steps : ℕ) (shown : Option Shown) → Verdict
  live_unshown : Verdict
  dead_at_handler : ℕ → Verdict
  dead_at_target : Verdict
  unknown : Verdict

abbrev pub is_dead : Verdict → Bool
is_dead (dead_at_handler k) = true
is_dead dead_at_target = true
is_dead _ = false

-- a budget ran out: no steps are shown, or it is unknown whether there are any
abbrev pub is_open : Verdict → Bool
is_open live_unshown = true
is_open unknown = true
is_open _ = false

abbrev pub places_of : List Statement → List Place
places_of stmts = map (λ (s : Statement). s.place) stmts

-- the text of a verdict, which stands behind `stmt S at L:C`
unfoldable pub verdict_text : List Place → List ℕ → Verdict → List ℕ
verdict_text places front (live steps shown) = front ++ codes " live " ++ count_text steps ++ codes "\n" ++ shown_text places shown None
verdict_text places front live_unshown = front ++ codes " live-unshown\n"
verdict_text places front (dead_at_handler k) = front ++ codes " dead at handler " ++ decimal k ++ codes "\n"
verdict_text places front dead_at_target = front ++ codes " dead at target\n"
verdict_text places front unknown = front ++ codes " spent\n"

-- statements are counted from 1
unfoldable pub front_text : ℕ → Place → List ℕ
front_text k place = codes "stmt " ++ decimal (k + 1) ++ codes " at " ++ place_text place

-- the lines of the statements, of which the first has the number k
abbrev pub lines_by : List Place → ℕ → List Statement → List Verdict → List ℕ
lines_by places k (s ∷ stmts) (v ∷ verdicts) = verdict_text places (front_text k s.place) v ++ lines_by places (k + 1) stmts verdicts
lines_by places k _ _ = []

abbrev pub verdict_lines : List Statement → List Verdict → List ℕ
verdict_lines stmts verdicts = lines_by (places_of stmts) 0 stmts verdicts
