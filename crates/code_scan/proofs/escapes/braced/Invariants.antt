use Rattle.std.proofs.Common.{◌≡◌, ◌≤◌, zero, length}
use Rattle.text_bytes.specs.Rests.{IsRest}
use Rattle.code_scan.specs.Escapes.{braced}
use Rattle.code_scan.proofs.escapes.braced.Given as goal

abbrev pub invariant-digits : goal.invariant-digits
invariant-digits l = record {
  small : l.code ≤ 1114112;
  rest : IsRest l.text l.rest;
  reads : braced l.code l.rest ≡ braced zero l.text;
}

abbrev pub decreases-digits : goal.decreases-digits
decreases-digits l = length l.rest
