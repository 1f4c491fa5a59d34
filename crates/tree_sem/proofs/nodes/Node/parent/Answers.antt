use Rattle.std.proofs.Common.{◌≡◌, Some, option_map, sym, ap, ◌∙◌}
use Rattle.tree_sem.specs.Table.{parent_in}
use Rattle.tree_sem.proofs.UpwardLemmas.{seen, parent_view, parent_placed}
use Rattle.tree_sem.proofs.WriteLemmas.{parent_is}
use Rattle.tree_sem.proofs.nodes.Node.parent.Goals as goal

pub invariant_of-result : goal.invariant_of-result
invariant_of-result c =
    let slots = c.self.inside.slots.now in
    let place = c.self.inside.place in
    parent_placed slots place c.self.invariant c.in_ok-place.place (parent_is slots place c.index.result.now c.index.ensures ∙ c.in_ok-place.was)

pub returns : goal.returns
returns c =
    let slots = c.self.inside.slots.now in
    let place = c.self.inside.place in
    let up : parent_in slots place ≡ Some c.in_ok-place.place = parent_is slots place c.index.result.now c.index.ensures ∙ c.in_ok-place.was in
    rw (← c.self.view_is) (sym (parent_view slots place c.self.invariant ∙ ap (option_map (seen slots)) up))
