use Rattle.pushdown_sym.specs.Adding.{AreIn}
use Rattle.summary_tests.proofs.rounds.cells_of.Given as goal

abbrev pub invariant-loop-kind : goal.invariant-loop-kind
invariant-loop-kind l = AreIn l.d.branches l.all
