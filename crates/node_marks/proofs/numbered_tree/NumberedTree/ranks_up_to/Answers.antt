use Rattle.node_marks.proofs.RankSets.{ranked_up_to}
use Rattle.node_marks.proofs.numbered_tree.NumberedTree.ranks_up_to.Goals as goal

pub returns : goal.returns
returns c =
    let made = rw (c.count.ensures, c.items.ensures) at c.in_ok-up_to.ensures in
    rw c.new.ensures (ranked_up_to c.args.self.now c.args.ranks.now c.args.most c.in_ok-up_to.field-0.items made)
