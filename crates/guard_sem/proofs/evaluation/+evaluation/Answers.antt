use Rattle.std.proofs.Common.{◌≤◌, sym, ap, ◌∙◌, subst, arith, take_all}
use Rattle.tree_sem.specs.Nodes.{IsNode}
use Rattle.node_marks.specs.Marks.{IsSetOf}
use Rattle.guard_sem.specs.Holding.{Holds, HoldAll}
use Rattle.guard_sem.specs.Guards.{guards_of}
use Rattle.guard_sem.specs.Sizes.{size_of, sizes_of}
use Rattle.guard_sem.proofs.Sizes.{item_le}
use Rattle.guard_sem.specs.Nodes.{term_of}
use Rattle.guard_sem.proofs.EvaluationLemmas.{of_atom, of_parent, of_ancestor, of_child, of_descendant, of_somewhere, of_at_or_below, all_more, any_more}
use Rattle.guard_sem.proofs.evaluation.+evaluation.Goals as goal

pub marked-returns-in-Atom : goal.marked-returns-in-Atom
marked-returns-in-Atom t c = of_atom c.args.nodes.now c.args.g.now c.with_atoms.result c.in-Atom.a (sym c.g.view_is ∙ ap term_of c.in-Atom.is) c.with_atoms.ensures

pub marked-returns-in_ok-marked-in-Parent : goal.marked-returns-in_ok-marked-in-Parent
marked-returns-in_ok-marked-in-Parent t c =
    of_parent c.args.nodes.now c.args.g.now c.below-in-Parent.result c.in-Parent.g.value c.in_ok-marked-in-Parent.field-0
    (subst (λ g. IsSetOf c.args.nodes.now c.in_ok-marked-in-Parent.field-0 (λ v. Holds c.args.nodes.now v g)) c.deref.ensures c.in_ok-marked-in-Parent.ensures) (sym c.g.view_is ∙ ap term_of c.in-Parent.is) c.below-in-Parent.ensures

pub marked-returns-in_ok-marked-in-Ancestor : goal.marked-returns-in_ok-marked-in-Ancestor
marked-returns-in_ok-marked-in-Ancestor t c =
    of_ancestor c.args.nodes.now c.args.g.now c.far_below-in-Ancestor.result c.in-Ancestor.g.value c.in_ok-marked-in-Ancestor.field-0
    (subst (λ g. IsSetOf c.args.nodes.now c.in_ok-marked-in-Ancestor.field-0 (λ v. Holds c.args.nodes.now v g)) c.deref-in-Ancestor.ensures c.in_ok-marked-in-Ancestor.ensures) (sym c.g.view_is ∙ ap term_of c.in-Ancestor.is) c.far_below-in-Ancestor.ensures

pub marked-returns-in_ok-marked-in-Child : goal.marked-returns-in_ok-marked-in-Child
marked-returns-in_ok-marked-in-Child t c =
    of_child c.args.nodes.now c.args.g.now c.over-in-Child.result c.in-Child.g.value c.in_ok-marked-in-Child.field-0
    (subst (λ g. IsSetOf c.args.nodes.now c.in_ok-marked-in-Child.field-0 (λ v. Holds c.args.nodes.now v g)) c.deref-in-Child.ensures c.in_ok-marked-in-Child.ensures) (sym c.g.view_is ∙ ap term_of c.in-Child.is) c.over-in-Child.ensures

pub marked-returns-in_ok-marked-in-Descendant : goal.marked-returns-in_ok-marked-in-Descendant
marked-returns-in_ok-marked-in-Descendant t c =
    of_descendant c.args.nodes.now c.args.g.now c.far_over-in-Descendant.result c.in-Descendant.g.value c.in_ok-marked-in-Descendant.field-0
    (subst (λ g. IsSetOf c.args.nodes.now c.in_ok-marked-in-Descendant.field-0 (λ v. Holds c.args.nodes.now v g)) c.deref-in-Descendant.ensures c.in_ok-marked-in-Descendant.ensures) (sym c.g.view_is ∙ ap term_of c.in-Descendant.is) c.far_over-in-Descendant.ensures

pub marked-returns-in_ok-marked-in-Somewhere : goal.marked-returns-in_ok-marked-in-Somewhere
marked-returns-in_ok-marked-in-Somewhere t c =
    of_somewhere c.args.nodes.now c.args.g.now c.if_any-in-Somewhere.result c.in-Somewhere.g.value c.in_ok-marked-in-Somewhere.field-0
    (subst (λ g. IsSetOf c.args.nodes.now c.in_ok-marked-in-Somewhere.field-0 (λ v. Holds c.args.nodes.now v g)) c.deref-in-Somewhere.ensures c.in_ok-marked-in-Somewhere.ensures) (sym c.g.view_is ∙ ap term_of c.in-Somewhere.is) c.if_any-in-Somewhere.ensures

pub marked-returns-in_ok-marked-in-AtOrBelow : goal.marked-returns-in_ok-marked-in-AtOrBelow
marked-returns-in_ok-marked-in-AtOrBelow t c =
    of_at_or_below c.args.nodes.now c.args.g.now c.at_or_below-in-AtOrBelow.result c.in-AtOrBelow.g.value c.in_ok-marked-in-AtOrBelow.field-0
    (subst (λ g. IsSetOf c.args.nodes.now c.in_ok-marked-in-AtOrBelow.field-0 (λ v. Holds c.args.nodes.now v g)) c.deref-in-AtOrBelow.ensures c.in_ok-marked-in-AtOrBelow.ensures) (sym c.g.view_is ∙ ap term_of c.in-AtOrBelow.is) c.at_or_below-in-AtOrBelow.ensures

pub marked_by_all-marked-requires : goal.marked_by_all-marked-requires
marked_by_all-marked-requires t c =
    let le : size_of c.g-item.result ≤ sizes_of (guards_of c.args.guards.now) =
    subst (λ z. size_of z ≤ sizes_of (guards_of c.args.guards.now)) (sym c.g-item.is) (item_le c.args.guards.now c.guards.g-index c.g-item.result c.guards-test.true) in
    (omega (arith, le), tt)

pub marked_by_any-marked-requires : goal.marked_by_any-marked-requires
marked_by_any-marked-requires t c =
    let le : size_of c.g-item.result ≤ sizes_of (guards_of c.args.guards.now) =
    subst (λ z. size_of z ≤ sizes_of (guards_of c.args.guards.now)) (sym c.g-item.is) (item_le c.args.guards.now c.guards.g-index c.g-item.result c.guards-test.true) in
    (omega (arith, le), tt)

pub marked_by_all-guards-preserved : goal.marked_by_all-guards-preserved
marked_by_all-guards-preserved t c =
    all_more c.args.nodes.now c.args.guards.now c.guards.g-index c.g-item.result c.guards-test.true c.g-item.is c.guards.made c.in_ok-marked.field-0 c.in_ok-made-2.made c.in_ok-marked.ensures c.guards.invariant c.in_ok-made-2.ensures

pub marked_by_any-guards-preserved : goal.marked_by_any-guards-preserved
marked_by_any-guards-preserved t c =
    any_more c.args.nodes.now c.args.guards.now c.guards.g-index c.g-item.result c.guards-test.true c.g-item.is c.guards.made c.in_ok-marked.field-0 c.in_ok-made-2.made c.in_ok-marked.ensures c.guards.invariant c.in_ok-made-2.ensures

pub marked_by_all-returns : goal.marked_by_all-returns
marked_by_all-returns t c =
    subst (λ gs. IsSetOf c.args.nodes.now c.guards.made (λ v. IsNode c.args.nodes.now v × HoldAll c.args.nodes.now v (guards_of gs))) (take_all c.guards.g-index c.args.guards.now c.guards-test.false) c.guards.invariant
