use Rattle.std.proofs.Common.{◌≡◌, length}
use Rattle.text_bytes.specs.Rests.{IsRest}
use Rattle.code_scan.specs.Names.{behind_name}
use Rattle.code_scan.proofs.names.behind_name.Given as goal

abbrev pub invariant-bytes : goal.invariant-bytes
invariant-bytes l = record {
  rest : IsRest l.text l.rest;
  reads : behind_name l.rest ≡ behind_name l.text;
}

abbrev pub decreases-bytes : goal.decreases-bytes
decreases-bytes l = length l.rest
