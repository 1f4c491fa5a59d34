use Rattle.std.proofs.Common.{◌≡◌, length}
use Rattle.text_bytes.specs.Marks.{behind_mark}
use Rattle.text_bytes.specs.Rests.{IsRest}
use Rattle.text_bytes.proofs.marks.behind_mark.Given as goal

abbrev pub invariant-turns : goal.invariant-turns
invariant-turns l = record {
  rest : IsRest l.text l.rest;
  reads : behind_mark l.mark l.rest ≡ behind_mark l.mark l.text;
}

abbrev pub decreases-turns : goal.decreases-turns
decreases-turns l = length l.rest
