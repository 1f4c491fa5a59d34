use Rattle.std.proofs.Common.{◌≤◌, ◌-◌}
use Rattle.tp_base.specs.Cursor.{IsAt}
use Rattle.tp_base.proofs.cursor.Cursor.go_on.Given as goal

abbrev pub invariant-bytes : goal.invariant-bytes
invariant-bytes l = record {
  here : IsAt l.text l.self;
  ahead : l.self.offset ≤ l.offset;
}

abbrev pub decreases-bytes : goal.decreases-bytes
decreases-bytes l = l.offset - l.self.offset
