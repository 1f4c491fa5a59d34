use Rattle.std.proofs.Common.{◌≡◌, length}
use Rattle.text_bytes.specs.Rests.{IsRest}
use Rattle.html_tokens.specs.Markup.{behind_text}
use Rattle.html_tokens.proofs.markup.behind_text.Given as goal

abbrev pub invariant-turns : goal.invariant-turns
invariant-turns l = record {
  rest : IsRest l.text l.rest;
  reads : behind_text l.rest ≡ behind_text l.text;
}

abbrev pub decreases-turns : goal.decreases-turns
decreases-turns l = length l.rest
