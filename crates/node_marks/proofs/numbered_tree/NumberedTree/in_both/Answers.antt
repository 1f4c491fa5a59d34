use Rattle.node_marks.proofs.SetLemmas.{marked_both}
use Rattle.node_marks.proofs.numbered_tree.NumberedTree.in_both.Goals as goal

pub returns : goal.returns
returns c =
    let made = rw (c.count.ensures, c.items.ensures, c.items-2.ensures) at c.in_ok-both.ensures in
    rw c.new.ensures (marked_both c.args.self.now c.args.set.now c.args.other.now c.in_ok-both.field-0.items made)
