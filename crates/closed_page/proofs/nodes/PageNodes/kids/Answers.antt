use Rattle.std.proofs.Common.{List, ℕ, sym, subst}
use Rattle.closed_page.specs.Labelled.{AreKids}
use Rattle.closed_page.specs.Numbered.{told, AreNumbered}
use Rattle.closed_page.proofs.NodeLemmas.{kids_are}
use Rattle.closed_page.proofs.nodes.PageNodes.kids.Goals as goal

pub returns : goal.returns
returns c =
    let n = c.self.inside in
    let is = subst (λ (z : List (List ℕ)). AreNumbered z (told n.parents.items) n.steps.items n.kids) c.self.view_is c.self.invariant in
    subst (λ (z : List ℕ). AreKids c.args.self.now c.args.number z) (sym c.of.ensures) (kids_are c.args.self.now (told n.parents.items) n.steps.items n.kids is c.args.number c.requires)
