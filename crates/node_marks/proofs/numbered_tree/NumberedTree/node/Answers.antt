use Rattle.std.proofs.Common.{refl}
use Rattle.node_marks.specs.Marks.{path_at}
use Rattle.node_marks.proofs.SetLemmas.{only_one}
use Rattle.node_marks.proofs.BesideLemmas.{one_node}
use Rattle.node_marks.proofs.numbered_tree.NumberedTree.node.Goals as goal

pub returns : goal.returns
returns c =
    let t = c.args.self.now in
    one_node t c.args.number c.one_node.result c.requires (only_one t (path_at t c.args.number) c.args.number c.one_node.result c.requires refl c.one_node.ensures)
