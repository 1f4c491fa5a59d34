use Rattle.std.proofs.Common.{map, subst}
use Rattle.node_marks.specs.Numbering.{IsNumbering}
use Rattle.node_marks.proofs.BesideLemmas.{marked_beside}
use Rattle.node_marks.proofs.numbered_tree.NumberedTree.beside.Goals as goal

pub returns : goal.returns
returns c =
    let n = c.self.inside in
    let is = subst (λ t. IsNumbering t n.parents.items n.steps.items (map (λ b. b.now) n.labels.items)) c.self.view_is c.self.invariant in
    let before = rw (c.deref.ensures.value, c.items.ensures) at c.in_ok-behind.ensures in
    let after = rw (c.deref-2.ensures.value, c.items-2.ensures) at c.in_ok-ahead.ensures in
    let made = rw (c.count.ensures, c.deref-3.ensures.value, c.deref-4.ensures.value) at c.in_ok-made.ensures in
    rw c.new.ensures (marked_beside c.args.self.now n.parents.items n.steps.items (map (λ b. b.now) n.labels.items) is c.args.set.now c.in_ok-made.made.items c.in_ok-behind.behind.items c.in_ok-ahead.ahead.items before after made)
