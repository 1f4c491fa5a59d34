use Rattle.std.proofs.Common.{take, All}
use Rattle.saturation.specs.HistoryMap.{history_in}
use Rattle.saturation.specs.Courses.{AreCourses, HasGate}
use Rattle.saturation.proofs.courses.row_with.Given as goal

abbrev pub invariant-loop-i : goal.invariant-loop-i
invariant-loop-i l = record {
  courses : AreCourses l.label (history_in l.histories l.kind) (take l.i l.visible) l.courses.items;
  gates : All (HasGate l.d.branches) l.courses.items;
}
