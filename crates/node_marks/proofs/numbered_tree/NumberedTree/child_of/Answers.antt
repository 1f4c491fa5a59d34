use Rattle.std.proofs.Common.{map, subst}
use Rattle.node_marks.specs.Numbering.{IsNumbering}
use Rattle.node_marks.proofs.NumberLemmas.{no_child}
use Rattle.node_marks.proofs.numbered_tree.NumberedTree.child_of.Goals as goal

pub returns-clause-none : goal.returns-clause-none
returns-clause-none c = λ none.
    let n = c.self.inside in
    let is = subst (λ t. IsNumbering t n.parents.items n.steps.items (map (λ b. b.now) n.labels.items)) c.self.view_is c.self.invariant in
    let others = (rw (c.deref.ensures.value, c.deref-2.ensures.value) at c.child.ensures.none) none in
    no_child c.args.self.now n.parents.items n.steps.items (map (λ b. b.now) n.labels.items) is c.args.parent c.args.step c.requires others
