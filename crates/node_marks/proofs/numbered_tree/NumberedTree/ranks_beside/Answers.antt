use Rattle.node_marks.proofs.RankSets.{ranked_beside}
use Rattle.node_marks.proofs.numbered_tree.NumberedTree.ranks_beside.Goals as goal

pub returns : goal.returns
returns c =
    let numbered = c.parents-parents.ensures in
    let behind = rw c.items.ensures at c.in_ok-behind.ensures in
    let ahead = rw c.items-2.ensures at c.in_ok-ahead.ensures in
    let made = rw (c.count.ensures, c.deref.ensures.value, c.deref-2.ensures.value) at c.in_ok-made.ensures in
    rw c.new.ensures (ranked_beside c.args.self.now c.parents-parents.result.now numbered.0 numbered.1 numbered.2 c.args.ranks.now c.in_ok-made.made.items c.in_ok-behind.behind.items c.in_ok-ahead.ahead.items behind ahead made)
