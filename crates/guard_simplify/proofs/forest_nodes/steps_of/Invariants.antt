use Rattle.std.proofs.Common.{◌≡◌, take}
use Rattle.guard_simplify.proofs.forest_nodes.steps_of.Given as goal

abbrev pub invariant-steps : goal.invariant-steps
invariant-steps l = l.steps.items ≡ take l.i l.at
