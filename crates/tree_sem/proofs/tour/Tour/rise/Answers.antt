use Rattle.std.proofs.Common.{◌≡◌, Some, None, ap, ◌∙◌}
use Rattle.tree_sem.specs.Arena.{place_from}
use Rattle.tree_sem.specs.Table.{kids_in, parent_in}
use Rattle.tree_sem.proofs.BuilderLemmas.{parent_place, at_root}
use Rattle.tree_sem.proofs.TableLemmas.{place_there}
use Rattle.tree_sem.proofs.WriteLemmas.{parent_is}
use Rattle.tree_sem.proofs.tour.Tour.rise.Goals as goal

pub index-requires : goal.index-requires
index-requires c = place_there c.self.inside.slots.now c.self.invariant.table.forest c.self.inside.at c.self.inside.place c.self.invariant.here

pub returns-in_err-parent-clause-none : goal.returns-in_err-parent-clause-none
returns-in_err-parent-clause-none c =
    let slots = c.self.inside.slots.now in
    let none : parent_in slots c.self.inside.place ≡ None = parent_is slots c.self.inside.place c.index.result.now c.index.ensures ∙ c.in_err-parent.was in
    let root = at_root slots c.self.inside.at c.self.inside.place c.self.invariant none in
    rw (← c.self.view_is, c.from_residual.ensures) (root, root)

pub invariant_of-self : goal.invariant_of-self
invariant_of-self c =
    let slots = c.self.inside.slots.now in
    let up : parent_in slots c.self.inside.place ≡ Some c.in_ok-parent.parent = parent_is slots c.self.inside.place c.index.result.now c.index.ensures ∙ c.in_ok-parent.was in
    record {
      table = c.self.invariant.table;
      here = ap (place_from (kids_in slots) 0) c.pop-step.ensures.rest ∙ parent_place slots c.self.inside.at c.self.inside.place c.self.invariant c.in_ok-parent.parent up;
    }
