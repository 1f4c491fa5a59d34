use Rattle.std.proofs.Common.{◌≡◌, ◌≤◌, ◌+◌, length}
use Rattle.widen_sheet.specs.Views.{kinds_of}
use Rattle.widen_sheet.specs.Wide as spec
use Rattle.widen_sheet.proofs.widening.joints.Given as goal

abbrev pub invariant-tokens : goal.invariant-tokens
invariant-tokens l = record {
  count : l.count + spec.joints (kinds_of l.rest) ≡ spec.joints (kinds_of l.tokens);
  within : l.count + length l.rest ≤ length l.tokens;
}

abbrev pub decreases-tokens : goal.decreases-tokens
decreases-tokens l = length l.rest
