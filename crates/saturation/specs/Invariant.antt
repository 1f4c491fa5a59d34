-- The invariant of summaries in diagrams.
use Rattle.std.specs.Prelude.{◌≡◌, ℕ, List, All}
use Rattle.class_diagrams.specs.Arena.{Arena}
use Rattle.simple_core.specs.declared.system.System.{System}
use Rattle.simple_core.specs.Systems.{IsSound}
use Rattle.pushdown_sym.specs.CellMap.{Entries}
use Rattle.pushdown_sym.specs.Adding.{AreIn}
use Rattle.pushdown_sym.specs.Rounds.{given_atoms}
use Rattle.saturation.specs.HistoryMap.{Noted, history_in}
use Rattle.saturation.specs.Saturation.{IsBuilt}
use Rattle.saturation.specs.Courses.{AreRows, HasGate}
use Rattle.saturation.specs.declared.courses.Course.{Course}

pub record AreSummaries (s : System) (atoms : List ℕ) (d : Arena) (cells : Entries) (histories : List (List Noted)) (rows : List (List Course)) : Type 0 where
  pub sound : IsSound s
  pub given : atoms ≡ given_atoms s
  pub inside : AreIn d.branches cells
  pub built : IsBuilt s d (history_in histories) cells
  pub by_kind : AreRows s (history_in histories) rows
  pub gated : All (All (HasGate d.branches)) rows
