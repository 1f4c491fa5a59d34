use Rattle.std.proofs.Common.{◌≡◌, take}
use Rattle.proof_check.proofs.nodes.steps_of.Given as goal

abbrev pub invariant-loop-i : goal.invariant-loop-i
invariant-loop-i l = record {
  so_far : l.steps.items ≡ take l.i l.path;
}
