use Rattle.std.proofs.Common.{◌≡◌, take}
use Rattle.proof_needs.proofs.spots.steps_of.Given as goal

abbrev pub invariant-loop-i : goal.invariant-loop-i
invariant-loop-i l = record {
  so_far : l.steps.items ≡ take l.i l.at;
}
