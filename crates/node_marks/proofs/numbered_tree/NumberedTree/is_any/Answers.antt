use Rattle.node_marks.proofs.SetLemmas.{any_marked}
use Rattle.node_marks.proofs.numbered_tree.NumberedTree.is_any.Goals as goal

pub returns : goal.returns
returns c = any_marked c.args.self.now c.args.set.now c.is_any.result (rw (c.count.ensures, c.items.ensures) at c.is_any.ensures)
