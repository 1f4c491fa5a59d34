use Rattle.std.proofs.Common.{◌≡◌, ◌≤◌, zero, length}
use Rattle.text_bytes.specs.Rests.{IsRest}
use Rattle.code_sources.specs.References.{number}
use Rattle.code_sources.proofs.references.number.Given as goal

abbrev pub invariant-digits : goal.invariant-digits
invariant-digits l = record {
  small : l.code ≤ 1114112;
  rest : IsRest l.text l.rest;
  reads : number l.base l.code l.rest ≡ number l.base zero l.text;
}

abbrev pub decreases-digits : goal.decreases-digits
decreases-digits l = length l.rest
