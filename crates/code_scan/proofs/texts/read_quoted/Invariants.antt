use Rattle.std.proofs.Common.{◌≡◌, length}
use Rattle.text_bytes.specs.Rests.{IsRest}
use Rattle.code_scan.specs.Texts.{with_part, text_from}
use Rattle.code_scan.proofs.texts.read_quoted.Given as goal

abbrev pub invariant-parts : goal.invariant-parts
invariant-parts l = record {
  rest : IsRest l.text l.rest;
  reads : with_part l.letters.items l.sure (text_from l.quote 0 l.rest) ≡ text_from l.quote 0 l.text;
}

abbrev pub decreases-parts : goal.decreases-parts
decreases-parts l = length l.rest
