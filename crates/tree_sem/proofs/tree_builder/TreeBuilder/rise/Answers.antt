use Rattle.std.proofs.Common.{◌≡◌, Some, None, ap, ◌∙◌}
use Rattle.tree_sem.specs.Arena.{place_from}
use Rattle.tree_sem.specs.Table.{kids_in, parent_in}
use Rattle.tree_sem.proofs.BuilderLemmas.{parent_place, no_parent}
use Rattle.tree_sem.proofs.TableLemmas.{place_there}
use Rattle.tree_sem.proofs.WriteLemmas.{parent_is}
use Rattle.tree_sem.proofs.tree_builder.TreeBuilder.rise.Goals as goal

pub index-requires : goal.index-requires
index-requires c = place_there c.self.inside.slots c.self.invariant.table.forest c.self.inside.at c.self.inside.place c.self.invariant.here

pub returns-in_default-clause-at : goal.returns-in_default-clause-at
returns-in_default-clause-at c =
    let slots = c.self.inside.slots in
    let none : parent_in slots c.self.inside.place ≡ None = parent_is slots c.self.inside.place c.index.result.now c.index.ensures ∙ c.in_default.is in
    rw (← c.self.view_is) (no_parent slots c.self.inside.at c.self.inside.place c.self.invariant none)

pub invariant_of-self : goal.invariant_of-self
invariant_of-self c =
    let slots = c.self.inside.slots in
    let up : parent_in slots c.self.inside.place ≡ Some c.in-Some.parent = parent_is slots c.self.inside.place c.index.result.now c.index.ensures ∙ c.in-Some.is in
    record {
      table = c.self.invariant.table;
      here = ap (place_from (kids_in slots) 0) c.pop.ensures.rest ∙ parent_place slots c.self.inside.at c.self.inside.place c.self.invariant c.in-Some.parent up;
    }
