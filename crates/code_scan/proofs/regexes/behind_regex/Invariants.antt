use Rattle.std.proofs.Common.{◌≡◌, false, length}
use Rattle.text_bytes.specs.Rests.{IsRest}
use Rattle.code_scan.specs.Regexes.{behind_regex}
use Rattle.code_scan.proofs.regexes.behind_regex.Given as goal

abbrev pub invariant-bytes : goal.invariant-bytes
invariant-bytes l = record {
  rest : IsRest l.text l.rest;
  reads : behind_regex l.in_class l.escaped l.rest ≡ behind_regex false false l.text;
}

abbrev pub decreases-bytes : goal.decreases-bytes
decreases-bytes l = length l.rest
