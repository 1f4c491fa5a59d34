use Rattle.node_marks.proofs.SetLemmas.{everywhere, nowhere}
use Rattle.node_marks.proofs.numbered_tree.NumberedTree.if_any.Goals as goal

pub returns-then-is_any : goal.returns-then-is_any
returns-then-is_any c = everywhere c.args.self.now c.args.set.now c.every_node.result (c.is_any.ensures.0 c.if-is_any.true) c.every_node.ensures

pub returns-else-is_any : goal.returns-else-is_any
returns-else-is_any c = nowhere c.args.self.now c.args.set.now c.no_node.result c.is_any.result c.if-is_any.false c.is_any.ensures c.no_node.ensures
