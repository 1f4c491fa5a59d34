use Rattle.node_marks.proofs.RankSets.{least_ranked}
use Rattle.node_marks.proofs.numbered_tree.NumberedTree.least_rank.Goals as goal

pub returns : goal.returns
returns c = least_ranked c.args.self.now c.args.ranks.now c.least_of.result (rw (c.count.ensures, c.items.ensures) at c.least_of.ensures)
