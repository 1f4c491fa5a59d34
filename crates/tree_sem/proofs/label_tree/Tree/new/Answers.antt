use Rattle.std.proofs.Common.{◌≡◌, Some, ◌∙◌, subst}
use Rattle.slab.specs.Slab.{Updates}
use Rattle.tree_sem.proofs.GrowLemmas.{first_table, first_tree}
use Rattle.tree_sem.proofs.label_tree.Tree.new.Goals as goal

pub invariant_of-result : goal.invariant_of-result
invariant_of-result c =
    let key : c.in_ok-insert.field-0 ≡ 0 = c.in_ok-insert.ensures.key ∙ c.new-slots.ensures.first_key in
    let inserts = subst (λ k. Updates c.new-slots.result c.insert.new.self k (Some c.childless.result)) key c.in_ok-insert.ensures.updates in
    first_table c.new-slots.result c.insert.new.self c.childless.result c.args.label c.new-slots.ensures.empty inserts c.in_ok-insert.ensures.len c.childless.ensures.label c.childless.ensures.children c.childless.ensures.parent c.childless.ensures.rises

pub returns : goal.returns
returns c =
    let key : c.in_ok-insert.field-0 ≡ 0 = c.in_ok-insert.ensures.key ∙ c.new-slots.ensures.first_key in
    let inserts = subst (λ k. Updates c.new-slots.result c.insert.new.self k (Some c.childless.result)) key c.in_ok-insert.ensures.updates in
    first_tree c.new-slots.result c.insert.new.self c.childless.result c.args.label c.new-slots.ensures.empty inserts c.in_ok-insert.ensures.len c.childless.ensures.label c.childless.ensures.children c.childless.ensures.parent c.childless.ensures.rises
