use Rattle.std.proofs.Common.{◌≡◌, length}
use Rattle.text_bytes.specs.Rests.{IsRest}
use Rattle.code_scan.specs.Lines.{behind_line}
use Rattle.code_scan.proofs.lines.behind_line.Given as goal

abbrev pub invariant-bytes : goal.invariant-bytes
invariant-bytes l = record {
  rest : IsRest l.text l.rest;
  reads : behind_line l.rest ≡ behind_line l.text;
}

abbrev pub decreases-bytes : goal.decreases-bytes
decreases-bytes l = length l.rest
