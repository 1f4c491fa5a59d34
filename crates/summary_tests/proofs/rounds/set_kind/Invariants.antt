use Rattle.pushdown_sym.specs.Adding.{AreIn}
use Rattle.summary_tests.proofs.rounds.set_kind.Given as goal

abbrev pub invariant-loop-atom : goal.invariant-loop-atom
invariant-loop-atom l = AreIn l.d.branches l.all
