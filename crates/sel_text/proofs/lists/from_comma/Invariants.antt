use Rattle.std.proofs.Common.{◌≡◌, length}
use Rattle.text_bytes.specs.Rests.{IsRest}
use Rattle.sel_text.specs.Lists.{from_comma}
use Rattle.sel_text.proofs.lists.from_comma.Given as goal

abbrev pub invariant-turns : goal.invariant-turns
invariant-turns l = record {
  rest : IsRest l.text l.rest;
  reads : from_comma 0 l.rest ≡ from_comma 0 l.text;
}

abbrev pub decreases-turns : goal.decreases-turns
decreases-turns l = length l.rest
