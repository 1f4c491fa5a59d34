use Rattle.node_marks.proofs.RankSets.{ranked_below}
use Rattle.node_marks.proofs.numbered_tree.NumberedTree.ranks_below.Goals as goal

pub returns : goal.returns
returns c =
    let numbered = c.parents.ensures in
    let made = rw c.items.ensures at c.in_ok-below.ensures in
    rw c.new.ensures (ranked_below c.args.self.now c.parents.result.now numbered.0 numbered.1 numbered.2 c.args.ranks.now c.in_ok-below.field-0.items made)
