use Rattle.std.proofs.Common.{take}
use Rattle.proof_needs.specs.Sets.{IsWith}
use Rattle.proof_needs.specs.Wants.{IsAtEach}
use Rattle.proof_needs.proofs.wants.want_at_each.Given as goal

abbrev pub invariant-loop-spot : goal.invariant-loop-spot
invariant-loop-spot l = IsWith l.initial.wants.keys (IsAtEach (take l.spot-index l.spots) l.atom) l.wants.keys
