use Rattle.std.proofs.Common.{◌≡◌, length}
use Rattle.simple_core.specs.Pairs.{Asks}
use Rattle.class_adding.specs.Asking.{Went}
use Rattle.class_adding.proofs.AddedLemmas.{IsAsking}
use Rattle.class_adding.proofs.WakeLemmas.{IsWaking}
use Rattle.class_adding.proofs.asker.Asker.add_kinds.Given as goal

abbrev pub invariant-kinds : goal.invariant-kinds
invariant-kinds g l = record {
  asking : IsAsking l.initial.self.system.now l.k l.own l.seen (g.S.Summaries.known l.self.sums.now) l.initial.next l.next l.kinds l.rest;
  waking : IsWaking l.initial.self.system.now l.k l.own l.seen l.wake l.rest;
  went : Went g.S.Summaries (Asks l.initial.self.system.now l.own) l.initial.self l.self;
  spent : g.S.Summaries.spent_on l.self.sums.now ≡ g.S.Summaries.spent_on l.initial.self.sums.now;
}

abbrev pub decreases-kinds : goal.decreases-kinds
decreases-kinds g l = length l.rest
