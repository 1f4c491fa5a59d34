use Rattle.std.proofs.Common.{◌≡◌, length}
use Rattle.proof_core.specs.Trails.{progress_of}
use Rattle.proof_check.specs.Unfolding.{unfold_entry}
use Rattle.proof_core.specs.Walks.{node_of, rest_of, walk_work}
use Rattle.proof_core.proofs.walks.entry_passed.Given as goal

abbrev pub invariant-turns : goal.invariant-turns
invariant-turns l = record {
  stands : l.walk.at ≡ node_of l.fn.at l.walk.stack.items;
  whole : rest_of l.world.system.now l.world.entries.now l.fn.at l.walk (progress_of l.trail)
      ≡ unfold_entry l.world.system.now l.world.entries.now (length l.world.entries.now) l.fn.entry l.fn.at (progress_of l.fn.trail);
}

abbrev pub decreases-turns : goal.decreases-turns
decreases-turns l = walk_work l.world.entries.now l.walk
