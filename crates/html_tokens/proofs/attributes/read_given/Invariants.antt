use Rattle.std.proofs.Common.{◌≡◌, length}
use Rattle.text_bytes.specs.Rests.{IsRest}
use Rattle.html_tokens.specs.Attributes.{attributes_from, given}
use Rattle.html_tokens.specs.Views.{given_of}
use Rattle.html_tokens.proofs.AttributeSteps.{with_given}
use Rattle.html_tokens.proofs.attributes.read_given.Given as goal

abbrev pub invariant-turns : goal.invariant-turns
invariant-turns l = record {
  rest : IsRest l.text l.rest;
  reads : with_given (given_of l.found) (attributes_from 0 l.rest) ≡ given l.text;
}

abbrev pub decreases-turns : goal.decreases-turns
decreases-turns l = length l.rest
