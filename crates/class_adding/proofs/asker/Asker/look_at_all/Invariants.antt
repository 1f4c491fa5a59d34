use Rattle.std.proofs.Common.{◌≡◌, ◌<◌, All, length}
use Rattle.closed_page.specs.declared.gains.NodeGain.{NodeGain}
use Rattle.closed_page.specs.Gains.{gains_at}
use Rattle.class_adding.specs.Asking.{Went}
use Rattle.class_adding.specs.Filling.{AsksIn}
use Rattle.class_adding.proofs.RoundLemmas.{IsLooking}
use Rattle.class_adding.proofs.asker.Asker.look_at_all.Given as goal

abbrev pub invariant-nodes : goal.invariant-nodes
invariant-nodes g l = record {
  looking : IsLooking l.initial.self.system.now l.filling.labels.labels l.k l.filling.labels.nodes (g.S.Summaries.known l.self.sums.now) (gains_at l.filling.labels.nodes l.gains.items) l.looks.items l.filling.work.due.items l.rest;
  went : Went g.S.Summaries (AsksIn l.initial.self.system.now l.filling.labels.labels) l.initial.self l.self;
  spent : g.S.Summaries.spent_on l.self.sums.now ≡ g.S.Summaries.spent_on l.initial.self.sums.now;
  numbers : All (λ (x : NodeGain). x.number < length l.filling.labels.nodes) l.gains.items;
}

abbrev pub decreases-nodes : goal.decreases-nodes
decreases-nodes g l = length l.rest
