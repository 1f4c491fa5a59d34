use Rattle.node_marks.proofs.RankSets.{ranked_far_over}
use Rattle.node_marks.proofs.numbered_tree.NumberedTree.ranks_far_over.Goals as goal

pub returns : goal.returns
returns c =
    let numbered = c.parents.ensures in
    let made = rw c.items.ensures at c.in_ok-far_over.ensures in
    rw c.new.ensures (ranked_far_over c.args.self.now c.parents.result.now numbered.0 numbered.1 numbered.2 c.args.ranks.now c.in_ok-far_over.field-0.items made)
