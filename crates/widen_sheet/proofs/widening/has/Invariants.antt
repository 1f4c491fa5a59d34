use Rattle.std.proofs.Common.{◌≡◌, length}
use Rattle.widen_sheet.specs.Wide as spec
use Rattle.widen_sheet.proofs.widening.has.Given as goal

abbrev pub invariant-bytes : goal.invariant-bytes
invariant-bytes l = record { same : spec.has l.bytes l.rest ≡ spec.has l.bytes l.text }

abbrev pub decreases-bytes : goal.decreases-bytes
decreases-bytes l = length l.rest
