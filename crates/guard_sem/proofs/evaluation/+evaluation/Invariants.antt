use Rattle.std.proofs.Common.{◌+◌, ◌*◌, take}
use Rattle.tree_sem.specs.Nodes.{IsNode}
use Rattle.node_marks.specs.Marks.{IsSetOf}
use Rattle.guard_sem.specs.Guards.{guards_of}
use Rattle.guard_sem.specs.Holding.{HoldAll, HoldsOne}
use Rattle.guard_sem.specs.Sizes.{size_of, sizes_of}
use Rattle.guard_sem.proofs.evaluation.+evaluation.Given as goal

abbrev pub decreases-marked : goal.decreases-marked
decreases-marked l = 2 * size_of l.g.now

abbrev pub decreases-marked_by_all : goal.decreases-marked_by_all
decreases-marked_by_all l = 2 * sizes_of (guards_of l.guards.now) + 1

abbrev pub decreases-marked_by_any : goal.decreases-marked_by_any
decreases-marked_by_any l = 2 * sizes_of (guards_of l.guards.now) + 1

abbrev pub invariant-marked_by_all-guards : goal.invariant-marked_by_all-guards
invariant-marked_by_all-guards l = IsSetOf l.nodes l.made (λ v. IsNode l.nodes v × HoldAll l.nodes v (guards_of (take l.g-index l.guards)))

abbrev pub invariant-marked_by_any-guards : goal.invariant-marked_by_any-guards
invariant-marked_by_any-guards l = IsSetOf l.nodes l.made (λ v. HoldsOne l.nodes v (guards_of (take l.g-index l.guards)))
