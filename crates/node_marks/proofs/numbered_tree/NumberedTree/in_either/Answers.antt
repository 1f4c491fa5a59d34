use Rattle.node_marks.proofs.SetLemmas.{marked_either}
use Rattle.node_marks.proofs.numbered_tree.NumberedTree.in_either.Goals as goal

pub returns : goal.returns
returns c =
    let made = rw (c.count.ensures, c.items.ensures, c.items-2.ensures) at c.in_ok-either.ensures in
    rw c.new.ensures (marked_either c.args.self.now c.args.set.now c.args.other.now c.in_ok-either.field-0.items made)
