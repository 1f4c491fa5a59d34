use Rattle.std.proofs.Common.{◌≡◌, [], drop, length}
use Rattle.proof_core.specs.PagePasses.{seen_in}
use Rattle.proof_core.specs.Trails.{progress_of}
use Rattle.proof_check.specs.Unfolding.{unfold_page, unfold_entry}
use Rattle.proof_core.proofs.page_passes.page_passed.Given as goal

abbrev pub invariant-loop-i : goal.invariant-loop-i
invariant-loop-i l = record {
  whole : unfold_page l.world.system.now (unfold_entry l.world.system.now l.world.entries.now (length l.world.entries.now)) l.page.tree.now l.items (λ q. []) (progress_of l.fn.trail)
      ≡ unfold_page l.world.system.now (unfold_entry l.world.system.now l.world.entries.now (length l.world.entries.now)) l.page.tree.now (drop l.i-index l.items) (seen_in l.page.nodes.now l.here) (progress_of l.trail);
}
