use Rattle.std.proofs.Common.{◌≡◌, [], take, drop}
use Rattle.proof_check.specs.Checks.{are_placed}
use Rattle.proof_check.specs.Nodes.{KnowsPage}
use Rattle.proof_check.proofs.page_checks.page_holds.Given as goal

abbrev pub invariant-loop-i : goal.invariant-loop-i
invariant-loop-i l = record {
  so_far : are_placed l.ground.system.now l.ground.entries.now l.ground.page.now [] l.items
      ≡ are_placed l.ground.system.now l.ground.entries.now l.ground.page.now (take l.i-index l.items) (drop l.i-index l.items);
  knows : KnowsPage l.ground.nodes.now l.known (take l.i-index l.items);
}
