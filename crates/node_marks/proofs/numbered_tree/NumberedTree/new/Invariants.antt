use Rattle.std.proofs.Common.{◌≡◌, length, map}
use Rattle.tree_sem.specs.Order.{rest_of}
use Rattle.node_marks.specs.Numbering.{IsWalkedTo}
use Rattle.node_marks.proofs.numbered_tree.NumberedTree.new.Given as goal

abbrev pub invariant-nodes : goal.invariant-nodes
invariant-nodes l = (l.tour.tree ≡ l.tree) × IsWalkedTo l.tree l.walk.parents.items l.walk.steps.items (map (λ b. b.now) l.walk.labels.items) l.walk.line.items l.tour.at

abbrev pub decreases-nodes : goal.decreases-nodes
decreases-nodes l = length (rest_of l.tour.at l.tour.tree)
