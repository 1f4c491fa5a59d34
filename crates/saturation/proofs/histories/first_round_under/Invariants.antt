use Rattle.std.proofs.Common.{◌-◌}
use Rattle.saturation.proofs.GrowthLemmas.{IsBetween}
use Rattle.saturation.proofs.histories.first_round_under.Given as goal

abbrev pub invariant-halves : goal.invariant-halves
invariant-halves g l = IsBetween l.d.branches (g.L.AtomSet.atoms l.label) l.changes l.low l.high

abbrev pub decreases-halves : goal.decreases-halves
decreases-halves g l = l.high - l.low
