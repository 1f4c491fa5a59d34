use Rattle.std.proofs.Common.{map, subst}
use Rattle.node_marks.specs.Numbering.{IsNumbering}
use Rattle.node_marks.proofs.numbered_tree.NumberedTree.parents.Goals as goal

pub returns : goal.returns
returns c =
    let n = c.self.inside in
    let is = subst (λ t. IsNumbering t n.parents.items n.steps.items (map (λ b. b.now) n.labels.items)) c.self.view_is c.self.invariant in
    rw c.deref.ensures.value (n.steps.items, map (λ b. b.now) n.labels.items, is)
