use Rattle.node_marks.proofs.RankSets.{ranked_own}
use Rattle.node_marks.proofs.numbered_tree.NumberedTree.own_ranks.Goals as goal

pub returns : goal.returns
returns c = rw c.new.ensures (ranked_own c.args.self.now c.in_ok-own.field-0.items (rw c.count.ensures at c.in_ok-own.ensures))
