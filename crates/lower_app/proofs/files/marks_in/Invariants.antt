use Rattle.std.proofs.Common.{◌-◌, ◌+◌, length, All}
use Rattle.tp_base.specs.Cursor.{IsAt}
use Rattle.lower_app.proofs.files.marks_in.Given as goal

abbrev pub invariant-marks : goal.invariant-marks
invariant-marks l = record {
  here : IsAt l.text l.cursor;
  all : All (IsAt l.text) l.marks.items;
}

abbrev pub decreases-marks : goal.decreases-marks
decreases-marks l = length l.text + 1 - l.at
