use Rattle.std.proofs.Common.{◌≤◌, length}
use Rattle.node_marks.specs.Passes.{AreOver}
use Rattle.node_marks.proofs.passes.over.Given as goal

abbrev pub invariant-nodes : goal.invariant-nodes
invariant-nodes l = record { within : l.next ≤ length l.parents; made : AreOver l.parents l.marks l.made.items l.next }

abbrev pub decreases-nodes : goal.decreases-nodes
decreases-nodes l = l.next
