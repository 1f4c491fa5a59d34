use Rattle.std.proofs.Common.{◌<◌, List, ℕ, length, sym, subst, arith}
use Rattle.closed_page.specs.Numbered.{told, AreNumbered}
use Rattle.closed_page.proofs.NodeLemmas.{told-length, told_here, above_node, before_node, root_node}
use Rattle.closed_page.proofs.nodes.PageNodes.parent.Goals as goal

pub told_parent-requires : goal.told_parent-requires
told_parent-requires c =
    let n = c.self.inside in
    let numbers = n.parents.items in
    let is = subst (λ (z : List (List ℕ)). AreNumbered z (told numbers) n.steps.items n.kids) c.self.view_is c.self.invariant in
    let count = is.parents_count in
    let long = told-length numbers in
    subst (λ (z : List ℕ). c.args.number < length z) (sym c.deref.ensures.value) (omega (arith, count, long, c.requires))

pub returns-clause-above : goal.returns-clause-above
returns-clause-above c =
    let n = c.self.inside in
    let numbers = n.parents.items in
    let is = subst (λ (z : List (List ℕ)). AreNumbered z (told numbers) n.steps.items n.kids) c.self.view_is c.self.invariant in
    let count = is.parents_count in
    let long = told-length numbers in
    let here = told_here numbers c.deref.result.now c.args.number c.told_parent.result c.deref.ensures.value (omega (arith, count, long, c.requires)) c.told_parent.ensures in
    above_node c.args.self.now (told numbers) n.steps.items n.kids is c.args.number c.requires c.told_parent.result here

pub returns-clause-before : goal.returns-clause-before
returns-clause-before c =
    let n = c.self.inside in
    let numbers = n.parents.items in
    let is = subst (λ (z : List (List ℕ)). AreNumbered z (told numbers) n.steps.items n.kids) c.self.view_is c.self.invariant in
    let count = is.parents_count in
    let long = told-length numbers in
    let here = told_here numbers c.deref.result.now c.args.number c.told_parent.result c.deref.ensures.value (omega (arith, count, long, c.requires)) c.told_parent.ensures in
    before_node c.args.self.now (told numbers) n.steps.items n.kids is c.args.number c.requires c.told_parent.result here

pub returns-clause-root : goal.returns-clause-root
returns-clause-root c =
    let n = c.self.inside in
    let numbers = n.parents.items in
    let is = subst (λ (z : List (List ℕ)). AreNumbered z (told numbers) n.steps.items n.kids) c.self.view_is c.self.invariant in
    let count = is.parents_count in
    let long = told-length numbers in
    let here = told_here numbers c.deref.result.now c.args.number c.told_parent.result c.deref.ensures.value (omega (arith, count, long, c.requires)) c.told_parent.ensures in
    root_node c.args.self.now (told numbers) n.steps.items n.kids is c.args.number c.requires c.told_parent.result here

pub returns-clause-once : goal.returns-clause-once
returns-clause-once c =
    let n = c.self.inside in
    let numbers = n.parents.items in
    let is = subst (λ (z : List (List ℕ)). AreNumbered z (told numbers) n.steps.items n.kids) c.self.view_is c.self.invariant in
    is.once
