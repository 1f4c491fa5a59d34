use Rattle.std.proofs.Common.{List, ℕ, ◌∙◌, subst, arith}
use Rattle.std.proofs.lemmas.List.{get_or_read}
use Rattle.closed_page.specs.Numbered.{told, AreNumbered}
use Rattle.closed_page.proofs.NodeLemmas.{step_node}
use Rattle.closed_page.proofs.nodes.PageNodes.step.Goals as goal

pub index-requires : goal.index-requires
index-requires c =
    let n = c.self.inside in
    let is = subst (λ (z : List (List ℕ)). AreNumbered z (told n.parents.items) n.steps.items n.kids) c.self.view_is c.self.invariant in
    let count = is.steps_count in
    omega (arith, count, c.requires)

pub returns : goal.returns
returns c = λ v k at.
    let n = c.self.inside in
    let is = subst (λ (z : List (List ℕ)). AreNumbered z (told n.parents.items) n.steps.items n.kids) c.self.view_is c.self.invariant in
    let count = is.steps_count in
    get_or_read n.steps.items c.args.number c.index.result.now (omega (arith, count, c.requires)) c.index.ensures 0 ∙ step_node c.args.self.now (told n.parents.items) n.steps.items n.kids is c.args.number c.requires v k at
