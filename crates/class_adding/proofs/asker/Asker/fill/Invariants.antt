use Rattle.std.proofs.Common.{◌≡◌, ◌-◌}
use Rattle.simple_core.specs.Pairs.{Asked}
use Rattle.class_adding.specs.Asking.{Went}
use Rattle.class_adding.proofs.FillingLemmas.{IsFilled}
use Rattle.class_adding.proofs.asker.Asker.fill.Given as goal

abbrev pub invariant-rounds : goal.invariant-rounds
invariant-rounds g l = record {
  filled : IsFilled l.initial.self.system.now l.page l.k (g.S.Summaries.known l.self.sums.now) l.filling;
  went : Went g.S.Summaries (Asked l.initial.self.system.now l.page) l.initial.self l.self;
  spent : g.S.Summaries.spent_on l.self.sums.now ≡ g.S.Summaries.spent_on l.initial.self.sums.now;
}

abbrev pub decreases-rounds : goal.decreases-rounds
decreases-rounds g l = 18446744073709551615 - l.k
