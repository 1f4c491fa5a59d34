use Rattle.std.proofs.Common.{length, take, sym, ap, ◌∙◌, subst, arith}
use Rattle.std.specs.List.{sum_by}
use Rattle.tree_sem.specs.Actions.{add_trees}
use Rattle.tree_sem.specs.Nodes.{IsNode}
use Rattle.tree_sem.specs.Trees.{count_of, edit_at, edit_each}
use Rattle.tree_sem.proofs.EachLemmas.{edit_each-more, count_of-edit_each-part, one_more_fits}
use Rattle.tree_sem.proofs.GrowthLemmas.{IsNode-grows, edit_each_grows, trees_grow}
use Rattle.tree_sem.proofs.grafts.graft_each.Goals as goal

pub graft_all-requires-clause-is_node : goal.graft_all-requires-clause-is_node
graft_all-requires-clause-is_node c =
    let old = c.args.tree.now in
    let path = c.index-at-done.result in
    let k = c.loop-done.done in
    let f = add_trees c.args.tops.now in
    let here : IsNode old path = subst (IsNode old) (sym c.index-at-done.is) (c.requires.nodes k path c.loop-done-test.true) in
    subst (λ z. IsNode z path) (sym c.loop-done.invariant) (IsNode-grows old (edit_each (take k c.args.at.now) f old) (edit_each_grows f (trees_grow c.args.tops.now) (take k c.args.at.now) old) path here)

pub graft_all-requires-clause-room : goal.graft_all-requires-clause-room
graft_all-requires-clause-room c =
    let total = sum_by count_of c.args.tops.now in
    let k = c.loop-done.done in
    let now = ap count_of c.loop-done.invariant ∙ count_of-edit_each-part c.args.at.now c.args.tops.now c.args.tree.now c.requires.nodes k c.loop-done-test.true in
    omega (arith, now, one_more_fits k (length c.args.at.now) total c.loop-done-test.true, c.requires.room)

pub loop-done-preserved : goal.loop-done-preserved
loop-done-preserved c =
    let old = c.args.tree.now in
    let path = c.index-at-done.result in
    let k = c.loop-done.done in
    let f = add_trees c.args.tops.now in
    c.in_default.ensures.ok ∙ ap (edit_at path f) c.loop-done.invariant ∙ ap (λ p. edit_at p f (edit_each (take k c.args.at.now) f old)) c.index-at-done.is
    ∙ sym (edit_each-more f old c.args.at.now k path c.loop-done-test.true)

-- memory failed
pub returns-in-Err-clause-err : goal.returns-in-Err-clause-err
returns-in-Err-clause-err c = c.drop_from_each.ensures c.args.tree.now (c.in-Err.ensures.err ∙ c.loop-done.invariant)
