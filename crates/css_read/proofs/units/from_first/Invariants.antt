use Rattle.std.proofs.Common.{◌≡◌, length, reverse}
use Rattle.text_bytes.specs.Rests.{IsRest}
use Rattle.css_read.specs.Units.{from_first_in, from_first}
use Rattle.css_read.proofs.units.from_first.Given as goal

abbrev pub invariant-units : goal.invariant-units
invariant-units l = record {
  rest : IsRest l.text l.rest;
  reads : from_first_in l.bytes (reverse l.brackets.items) 0 l.rest ≡ from_first l.bytes l.text;
}

abbrev pub decreases-units : goal.decreases-units
decreases-units l = length l.rest
