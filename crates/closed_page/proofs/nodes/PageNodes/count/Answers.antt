use Rattle.std.proofs.Common.{List, ℕ, subst, arith}
use Rattle.closed_page.specs.Numbered.{told, AreNumbered}
use Rattle.closed_page.proofs.NodeLemmas.{told-length}
use Rattle.closed_page.proofs.nodes.PageNodes.count.Goals as goal

pub returns : goal.returns
returns c =
    let n = c.self.inside in
    let numbers = n.parents.items in
    let is = subst (λ (z : List (List ℕ)). AreNumbered z (told numbers) n.steps.items n.kids) c.self.view_is c.self.invariant in
    let count = is.parents_count in
    let long = told-length numbers in
    omega (arith, count, long, n.parents.ok, c.len.ensures)
