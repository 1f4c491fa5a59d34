use Rattle.std.proofs.Common.{◌≡◌, ℕ, List, Some, All, length, slice_get}
use Rattle.simple_core.specs.Systems.{kind_label}
use Rattle.saturation.specs.declared.courses.Course.{Course}
use Rattle.saturation.specs.HistoryMap.{history_in}
use Rattle.saturation.specs.Courses.{AreCourses, HasGate}
use Rattle.saturation.proofs.courses.rows_of.Given as goal

abbrev pub invariant-loop-i : goal.invariant-loop-i
invariant-loop-i l = record {
  count : length l.rows.items ≡ l.i;
  each : (j : ℕ) (row : List Course) → slice_get l.rows.items j ≡ Some row → AreCourses (kind_label l.system j) (history_in l.histories j) l.system.visible row;
  gates : All (All (HasGate l.d.branches)) l.rows.items;
}
