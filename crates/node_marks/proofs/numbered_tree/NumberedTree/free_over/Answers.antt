use Rattle.std.proofs.Common.{map, subst}
use Rattle.node_marks.specs.Numbering.{IsNumbering}
use Rattle.node_marks.proofs.BesideLemmas.{marked_free_over}
use Rattle.node_marks.proofs.numbered_tree.NumberedTree.free_over.Goals as goal

pub returns : goal.returns
returns c =
    let n = c.self.inside in
    let is = subst (λ t. IsNumbering t n.parents.items n.steps.items (map (λ b. b.now) n.labels.items)) c.self.view_is c.self.invariant in
    let made = rw (c.deref.ensures.value, c.items.ensures, c.items-2.ensures) at c.in_ok-free_over.ensures in
    rw c.new.ensures (marked_free_over c.args.self.now n.parents.items n.steps.items (map (λ b. b.now) n.labels.items) is c.args.set.now c.in_ok-free_over.field-0.items c.args.stops.now made)
