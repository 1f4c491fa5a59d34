use Rattle.std.proofs.Common.{map, subst}
use Rattle.node_marks.specs.Numbering.{IsNumbering}
use Rattle.node_marks.proofs.SetLemmas.{marked_with}
use Rattle.node_marks.proofs.numbered_tree.NumberedTree.with_atoms.Goals as goal

pub returns : goal.returns
returns c =
    let n = c.self.inside in
    let is = subst (λ t. IsNumbering t n.parents.items n.steps.items (map (λ b. b.now) n.labels.items)) c.self.view_is c.self.invariant in
    let made = rw c.deref.ensures.value at c.in_ok-labels_with.ensures in
    rw (c.new.ensures, made) (marked_with c.args.self.now n.parents.items n.steps.items n.labels.items is c.args.atoms.now)
