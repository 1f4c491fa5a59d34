-- What is true of summaries when they are built.
use Rattle.std.proofs.Common.{◌≡◌, ℕ, List, All, sym, ap, subst, ◌∙◌}
use Rattle.class_diagrams.specs.Arena.{Arena}
use Rattle.simple_core.specs.declared.system.System.{System}
use Rattle.simple_core.specs.Systems.{IsSound}
use Rattle.pushdown_sym.specs.CellMap.{Entries}
use Rattle.pushdown_sym.specs.Adding.{AreIn}
use Rattle.pushdown_sym.specs.Rounds.{given_atoms}
use Rattle.saturation.specs.HistoryMap.{Noted, history_in}
use Rattle.saturation.specs.Saturation.{IsBuilt}
use Rattle.saturation.specs.declared.courses.Course.{Course}
use Rattle.saturation.specs.Courses.{AreRows, HasGate}
use Rattle.saturation.specs.Invariant.{AreSummaries}

-- the summaries keep a copy of the system
pub summaries_built : (s copy : System) (atoms : List ℕ) (d : Arena) (cells : Entries) (histories : List (List Noted)) (rows : List (List Course)) → copy ≡ s → IsSound s → atoms ≡ given_atoms s
    → AreIn d.branches cells → IsBuilt s d (history_in histories) cells → AreRows s (history_in histories) rows → All (All (HasGate d.branches)) rows → AreSummaries copy atoms d cells histories rows
summaries_built s copy atoms d cells histories rows same sound given inside built are gated = record {
  sound = subst IsSound (sym same) sound;
  given = given ∙ ap given_atoms (sym same);
  inside = inside;
  built = subst (λ (z : System). IsBuilt z d (history_in histories) cells) (sym same) built;
  by_kind = subst (λ (z : System). AreRows z (history_in histories) rows) (sym same) are;
  gated = gated;
}
