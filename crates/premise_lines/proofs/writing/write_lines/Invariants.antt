use Rattle.std.proofs.Common.{ℕ, List, Option, Result, length}
use Rattle.tp_base.specs.Cursor.{IsAt}
use Rattle.premise_lines.specs.declared.stops.Stop.{Stop}
use Rattle.premise_lines.specs.Lines.{lines_of}
use Rattle.premise_lines.specs.Runs.{Writes}
use Rattle.premise_lines.specs.Tells.{put_of}
use Rattle.premise_lines.proofs.writing.write_lines.Given as goal

-- whatever comes of the lines that are left comes of all
abbrev pub invariant-findings : goal.invariant-findings
invariant-findings g l = record {
  here : IsAt l.text l.cursor;
  goes_on : (held : Option (List ℕ)) (faults : ℕ) (r : Result (Unit {0}) Stop) → Writes (lines_of l.part l.text l.left) (put_of (g.O.Sink.written l.out) held (g.O.Sink.faults l.out) faults) r
      → Writes (lines_of l.part l.text l.found) (put_of (g.O.Sink.written l.fn.out) held (g.O.Sink.faults l.fn.out) faults) r;
}

abbrev pub decreases-findings : goal.decreases-findings
decreases-findings g l = length l.left
