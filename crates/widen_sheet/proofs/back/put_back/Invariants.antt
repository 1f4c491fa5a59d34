use Rattle.std.proofs.Common.{◌≡◌, false, length}
use Rattle.text_bytes.specs.Rests.{IsRest}
use Rattle.widen_sheet.specs.Wide as spec
use Rattle.widen_sheet.proofs.back.put_back.Given as goal

abbrev pub invariant-bytes : goal.invariant-bytes
invariant-bytes l = record {
  rest : IsRest l.text l.rest;
  put : spec.behind_text l.out.items (spec.back_from (length l.text) l.star 0 l.rest) ≡ spec.back_from (length l.text) false 0 l.text;
}

abbrev pub decreases-bytes : goal.decreases-bytes
decreases-bytes l = length l.rest
