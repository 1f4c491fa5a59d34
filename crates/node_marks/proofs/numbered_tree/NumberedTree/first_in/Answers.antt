use Rattle.std.proofs.Common.{refl}
use Rattle.node_marks.proofs.BesideLemmas.{first_marked, none_first}
use Rattle.node_marks.proofs.numbered_tree.NumberedTree.first_in.Goals as goal

pub returns-in-None : goal.returns-in-None
returns-in-None c = none_first c.args.self.now c.args.set.now c.no_node.result (rw (c.count.ensures, c.items.ensures) at (c.in-None.ensures.none refl)) c.no_node.ensures

pub returns-in-Some : goal.returns-in-Some
returns-in-Some c =
    let first = rw (c.count.ensures, c.items.ensures) at c.in-Some.ensures.some in
    first_marked c.args.self.now c.args.set.now c.in-Some.number c.node.result first c.node.ensures
