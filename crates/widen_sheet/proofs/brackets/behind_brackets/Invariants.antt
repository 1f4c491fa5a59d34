use Rattle.std.proofs.Common.{◌≡◌, [], ◌∷◌, length, reverse}
use Rattle.text_bytes.specs.Rests.{IsRest}
use Rattle.widen_sheet.specs.Wide as spec
use Rattle.widen_sheet.proofs.brackets.behind_brackets.Given as goal

abbrev pub invariant-units : goal.invariant-units
invariant-units l = record {
  rest : IsRest l.text l.rest;
  reads : spec.behind_brackets (reverse l.closers.items) 0 l.rest ≡ spec.behind_brackets (l.closer ∷ []) 0 l.text;
}

abbrev pub decreases-units : goal.decreases-units
decreases-units l = length l.rest
