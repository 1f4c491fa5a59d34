use Rattle.std.proofs.Common.{List, ℕ, subst, arith}
use Rattle.closed_page.specs.Numbered.{told, AreNumbered}
use Rattle.closed_page.proofs.NodeLemmas.{number_is, number_root}
use Rattle.closed_page.proofs.nodes.PageNodes.number_at.Goals as goal

pub returns-then-parent-count : goal.returns-then-parent-count
returns-then-parent-count c =
    let n = c.self.inside in
    let is = subst (λ (z : List (List ℕ)). AreNumbered z (told n.parents.items) n.steps.items n.kids) c.self.view_is c.self.invariant in
    number_is c.args.self.now (told n.parents.items) n.steps.items n.kids is c.args.parent c.args.step c.deref.result.now c.child_of.result c.deref.ensures.value (omega (arith, c.if-parent-count.true, c.count.ensures)) c.child_of.ensures.some c.child_of.ensures.none

pub returns : goal.returns
returns c =
    let n = c.self.inside in
    let is = subst (λ (z : List (List ℕ)). AreNumbered z (told n.parents.items) n.steps.items n.kids) c.self.view_is c.self.invariant in
    number_root c.args.self.now (told n.parents.items) n.steps.items n.kids is c.args.parent c.args.step (omega (arith, c.if-parent-count.false, c.count.ensures))
