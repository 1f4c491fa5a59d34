use Rattle.node_marks.proofs.RankSets.{ranked_chosen}
use Rattle.node_marks.proofs.numbered_tree.NumberedTree.ranks_in.Goals as goal

pub returns : goal.returns
returns c =
    let made = rw (c.count.ensures, c.items.ensures, c.items-2.ensures) at c.in_ok-chosen.ensures in
    rw c.new.ensures (ranked_chosen c.args.self.now c.in_ok-chosen.field-0.items c.args.set.now c.args.ranks.now made)
