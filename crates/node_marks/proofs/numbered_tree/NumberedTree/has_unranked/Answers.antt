use Rattle.node_marks.proofs.RankSets.{unranked}
use Rattle.node_marks.proofs.numbered_tree.NumberedTree.has_unranked.Goals as goal

pub returns : goal.returns
returns c = unranked c.args.self.now c.args.set.now c.args.ranks.now c.is_any_without.result (rw (c.count.ensures, c.items.ensures, c.items-2.ensures) at c.is_any_without.ensures)
