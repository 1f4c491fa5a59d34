use Rattle.std.proofs.Common.{◌≡◌, length}
use Rattle.text_bytes.specs.Rests.{IsRest}
use Rattle.html_tokens.specs.Markup.{behind_raw}
use Rattle.html_tokens.proofs.raw.behind_raw.Given as goal

abbrev pub invariant-turns : goal.invariant-turns
invariant-turns l = record {
  rest : IsRest l.text l.rest;
  reads : behind_raw l.name l.rest ≡ behind_raw l.name l.text;
}

abbrev pub decreases-turns : goal.decreases-turns
decreases-turns l = length l.rest
