use Rattle.std.proofs.Common.{◌≡◌, ◌≤◌, ◌-◌, ◌^◌, length}
use Rattle.proof_maker.specs.PlaceMemos.{IsPlaceMemo}
use Rattle.proof_maker.specs.Working.{IsWorking}
use Rattle.proof_maker.proofs.looking.needs_of.Given as goal

abbrev pub invariant-wants : goal.invariant-wants
invariant-wants g l = record {
  working : IsWorking l.world.system.now l.world.page.now (g.S.Summaries.known l.world.sums.now) l.needs;
  target_is : l.needs.target ≡ l.fn.target;
  few : length l.needs.triples.keys ≤ l.limit;
  memo : IsPlaceMemo l.world.system.now l.memo;
}

abbrev pub decreases-wants : goal.decreases-wants
decreases-wants g l = 2 ^ 63 - length l.needs.drafts.items
