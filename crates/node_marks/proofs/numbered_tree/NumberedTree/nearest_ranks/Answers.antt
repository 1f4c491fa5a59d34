use Rattle.node_marks.proofs.RankSets.{ranked_nearest}
use Rattle.node_marks.proofs.numbered_tree.NumberedTree.nearest_ranks.Goals as goal

pub returns : goal.returns
returns c =
    let numbered = c.parents.ensures in
    let made = rw (c.items.ensures, c.items-2.ensures) at c.in_ok-nearest.ensures in
    rw c.new.ensures (ranked_nearest c.args.self.now c.parents.result.now numbered.0 numbered.1 numbered.2 c.args.ranks.now c.in_ok-nearest.field-0.items c.args.set.now made)
