use Rattle.std.proofs.Common.{refl}
use Rattle.node_marks.proofs.SetLemmas.{only_nothing, only_one}
use Rattle.node_marks.proofs.numbered_tree.NumberedTree.only.Goals as goal

pub returns-in-None : goal.returns-in-None
returns-in-None c = only_nothing c.args.self.now c.args.at.now c.no_node.result (c.in-None.ensures.none refl) c.no_node.ensures

pub returns-in-Some : goal.returns-in-Some
returns-in-Some c =
    let at = c.in-Some.ensures.some in
    only_one c.args.self.now c.args.at.now c.in-Some.number c.one_node.result at.0 at.1 c.one_node.ensures
