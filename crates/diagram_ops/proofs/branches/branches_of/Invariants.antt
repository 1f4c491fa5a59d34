use Rattle.std.proofs.Common.{◌+◌, ◌-◌, length}
use Rattle.diagram_ops.specs.Walks.{IsWalk}
use Rattle.diagram_ops.proofs.branches.branches_of.Given as goal

abbrev pub invariant-loop-next : goal.invariant-loop-next
invariant-loop-next l = IsWalk l.d.branches l.fn.f l.seen.keys l.next

abbrev pub decreases-loop-next : goal.decreases-loop-next
decreases-loop-next l = length l.d.branches + 2 - l.next
