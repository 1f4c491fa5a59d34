use Rattle.std.proofs.Common.{map, subst}
use Rattle.node_marks.specs.Numbering.{IsNumbering}
use Rattle.node_marks.proofs.SetLemmas.{marked_far_below}
use Rattle.node_marks.proofs.numbered_tree.NumberedTree.far_below.Goals as goal

pub returns : goal.returns
returns c =
    let n = c.self.inside in
    let is = subst (λ t. IsNumbering t n.parents.items n.steps.items (map (λ b. b.now) n.labels.items)) c.self.view_is c.self.invariant in
    let made = rw (c.deref.ensures.value, c.items.ensures) at c.in_ok-far_below.ensures in
    rw c.new.ensures (marked_far_below c.args.self.now n.parents.items n.steps.items (map (λ b. b.now) n.labels.items) is c.args.set.now c.in_ok-far_below.field-0.items made)
