use Rattle.std.proofs.Common.{◌≡◌, ◌+◌, take, get_or, sym, ap, ◌∙◌, subst, arith}
use Rattle.std.specs.List.{sum_by}
use Rattle.std.proofs.lemmas.List.Sums.{sum_by_more_le}
use Rattle.tree_sem.specs.Actions.{add_trees}
use Rattle.tree_sem.specs.Nodes.{IsNode}
use Rattle.tree_sem.specs.Trees.{LabelTree, count_of, edit_at, add_tree}
use Rattle.tree_sem.proofs.CountLemmas.{count_of-add_trees}
use Rattle.tree_sem.proofs.DropLemmas.{none_added}
use Rattle.tree_sem.proofs.EachLemmas.{add_trees-more}
use Rattle.tree_sem.proofs.GrowthLemmas.{IsNode-grows, add_trees_grows}
use Rattle.tree_sem.proofs.RowLemmas.{there}
use Rattle.tree_sem.proofs.grafts.graft_all.Goals as goal

pub loop-done-init : goal.loop-done-init
loop-done-init c = sym (none_added c.args.at.now c.args.tree.now)

pub graft-requires-clause-is_node : goal.graft-requires-clause-is_node
graft-requires-clause-is_node c =
    let t = c.args.tree.now in
    let p = c.args.at.now in
    let tops = take c.loop-done.done c.args.tops.now in
    subst (λ z. IsNode z p) (sym c.loop-done.invariant) (IsNode-grows t (edit_at p (add_trees tops) t) (add_trees_grows tops p t) p c.requires.is_node)

pub graft-requires-clause-room : goal.graft-requires-clause-room
graft-requires-clause-room c =
    let t = c.args.tree.now in
    let p = c.args.at.now in
    let tops = c.args.tops.now in
    let k = c.loop-done.done in
    let top = c.index-tops-done.result in
    let node = there _ c.requires.is_node in
    let now : count_of c.loop-done.tree ≡ count_of t + sum_by count_of (take k tops) = ap count_of c.loop-done.invariant ∙ count_of-add_trees p (take k tops) t node.0 node.1 in
    let same : count_of top ≡ count_of (get_or tops k top) = ap count_of c.index-tops-done.is in
    omega (arith, now, same, sum_by_more_le count_of tops k top c.loop-done-test.true, c.requires.room)

pub loop-done-preserved : goal.loop-done-preserved
loop-done-preserved c =
    let t = c.args.tree.now in
    let p = c.args.at.now in
    let tops = c.args.tops.now in
    let k = c.loop-done.done in
    let top = c.index-tops-done.result in
    c.in_default.ensures.ok ∙ ap (edit_at p (add_tree top)) c.loop-done.invariant ∙ ap (λ (u : LabelTree). edit_at p (add_tree u) (edit_at p (add_trees (take k tops)) t)) c.index-tops-done.is
    ∙ sym (add_trees-more p t tops k top c.loop-done-test.true)

-- memory failed
pub returns-in-Err-clause-err : goal.returns-in-Err-clause-err
returns-in-Err-clause-err c = c.drop_trees.ensures c.args.tree.now (c.in-Err.ensures.err ∙ c.loop-done.invariant)
