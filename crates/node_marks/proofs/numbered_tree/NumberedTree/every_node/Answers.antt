use Rattle.std.proofs.Common.{◌∙◌}
use Rattle.node_marks.proofs.SetLemmas.{every_marked}
use Rattle.node_marks.proofs.numbered_tree.NumberedTree.every_node.Goals as goal

pub returns : goal.returns
returns c = every_marked c.args.self.now c.count.result c.new.result c.count.ensures (c.new.ensures ∙ c.in_ok-filled.ensures)
