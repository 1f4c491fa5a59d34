use Rattle.std.proofs.Common.{◌≡◌, ◌++◌, length, option_map}
use Rattle.text_bytes.specs.Rests.{IsRest}
use Rattle.widen_sheet.specs.Views.{wide_view}
use Rattle.widen_sheet.specs.Wide as spec
use Rattle.widen_sheet.proofs.tokens.tokens_of.Given as goal

abbrev pub invariant-tokens : goal.invariant-tokens
invariant-tokens l = record {
  rest : IsRest l.text l.rest;
  reads : option_map (λ (ts : spec.Wide). wide_view l.text l.tokens.items ++ ts) (spec.wide_from l.wanted 0 l.rest) ≡ spec.wide_of l.text;
}

abbrev pub decreases-tokens : goal.decreases-tokens
decreases-tokens l = length l.rest
