use Rattle.std.proofs.Common.{◌≡◌, false, length}
use Rattle.text_bytes.specs.Rests.{IsRest}
use Rattle.css_read.specs.Units.{behind_string}
use Rattle.widen_sheet.proofs.brackets.behind_string.Given as goal

abbrev pub invariant-turns : goal.invariant-turns
invariant-turns l = record {
  rest : IsRest l.text l.rest;
  reads : behind_string l.quote l.escaped l.rest ≡ behind_string l.quote false l.text;
}

abbrev pub decreases-turns : goal.decreases-turns
decreases-turns l = length l.rest
