use Rattle.std.proofs.Common.{◌≡◌, length}
use Rattle.widen_sheet.specs.Views.{kinds_of}
use Rattle.widen_sheet.specs.Wide as spec
use Rattle.widen_sheet.proofs.marks.goes.Given as goal

abbrev pub invariant-tokens : goal.invariant-tokens
invariant-tokens l = record {
  same : spec.goes (kinds_of l.rest) ≡ spec.goes (kinds_of l.tokens);
}

abbrev pub decreases-tokens : goal.decreases-tokens
decreases-tokens l = length l.rest
