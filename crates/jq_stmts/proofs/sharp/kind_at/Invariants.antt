use Rattle.std.proofs.Common.{◌≡◌, length}
use Rattle.jq_stmts.specs.SharpViews as spec
use Rattle.jq_stmts.proofs.sharp.kind_at.Given as goal

abbrev pub invariant-marks : goal.invariant-marks
invariant-marks l = spec.kind_at l.fn.sharp l.fn.handler l.fn.call ≡ spec.kind_at l.rest l.fn.handler l.fn.call

abbrev pub decreases-marks : goal.decreases-marks
decreases-marks l = length l.rest
