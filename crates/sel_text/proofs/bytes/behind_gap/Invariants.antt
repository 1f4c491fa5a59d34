use Rattle.std.proofs.Common.{◌≡◌, length}
use Rattle.text_bytes.specs.Rests.{IsRest}
use Rattle.sel_text.specs.Bytes.{behind_gap}
use Rattle.sel_text.proofs.bytes.behind_gap.Given as goal

abbrev pub invariant-turns : goal.invariant-turns
invariant-turns l = record {
  rest : IsRest l.text l.rest;
  reads : behind_gap l.blanks 0 l.rest ≡ behind_gap l.blanks 0 l.text;
}

abbrev pub decreases-turns : goal.decreases-turns
decreases-turns l = length l.rest
