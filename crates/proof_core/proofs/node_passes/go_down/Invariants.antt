use Rattle.std.proofs.Common.{◌≡◌, ◌++◌, length, reverse}
use Rattle.proof_core.proofs.node_passes.go_down.Given as goal

abbrev pub invariant-steps : goal.invariant-steps
invariant-steps l = record {
  whole : l.path ++ reverse l.rest.items ≡ l.fn.path ++ reverse l.way;
}

abbrev pub decreases-steps : goal.decreases-steps
decreases-steps l = length l.rest.items
