use Rattle.std.proofs.Common.{length}
use Rattle.tree_sem.proofs.WalkLemmas.{IsUp}
use Rattle.tree_sem.proofs.document_order.go_on.Given as goal

abbrev pub invariant-loop-step : goal.invariant-loop-step
invariant-loop-step l = IsUp l.tree l.initial.at l.at

abbrev pub decreases-loop-step : goal.decreases-loop-step
decreases-loop-step l = length l.at
