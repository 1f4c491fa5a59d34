use Rattle.std.proofs.Common.{take}
use Rattle.proof_needs.specs.Sets.{IsWith}
use Rattle.proof_needs.specs.Wants.{IsOfEach}
use Rattle.proof_needs.proofs.wants.want_each.Given as goal

abbrev pub invariant-loop-i : goal.invariant-loop-i
invariant-loop-i l = IsWith l.initial.wants.keys (IsOfEach l.spot (take l.i l.atoms)) l.wants.keys
