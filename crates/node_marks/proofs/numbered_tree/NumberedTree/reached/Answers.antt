use Rattle.node_marks.proofs.RankSets.{marked_reached}
use Rattle.node_marks.proofs.numbered_tree.NumberedTree.reached.Goals as goal

pub returns : goal.returns
returns c =
    let made = rw (c.count.ensures, c.items.ensures, c.items-2.ensures) at c.in_ok-reached.ensures in
    rw c.new.ensures (marked_reached c.args.self.now c.args.set.now c.args.ranks.now c.in_ok-reached.field-0.items made)
