use Rattle.std.proofs.Common.{◌≡◌, ◌++◌}
use Rattle.proof_core.specs.NodePasses.{way_on, all_seen, turns}
use Rattle.proof_core.proofs.node_passes.walk_from.Given as goal

abbrev pub invariant-items : goal.invariant-items
invariant-items l = record {
  whole : l.path ++ way_on (all_seen l.items) l.next ≡ way_on (all_seen l.items) l.fn.from;
}

abbrev pub decreases-items : goal.decreases-items
decreases-items l = turns l.next
