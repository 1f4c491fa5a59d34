use Rattle.std.proofs.Common.{◌≡◌, ◌≤◌, length}
use Rattle.widen_sheet.specs.Wide as spec
use Rattle.widen_sheet.proofs.widening.from_bytes.Given as goal

abbrev pub invariant-bytes : goal.invariant-bytes
invariant-bytes l = record {
  same : spec.from_bytes l.bytes l.rest ≡ spec.from_bytes l.bytes l.text;
  within : length l.rest ≤ length l.text;
}

abbrev pub decreases-bytes : goal.decreases-bytes
decreases-bytes l = length l.rest
