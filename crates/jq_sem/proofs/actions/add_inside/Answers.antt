use Rattle.std.proofs.Common.{subst, List}
use Rattle.tree_sem.specs.Trees.{LabelTree, node_at, edit_at}
use Rattle.tree_sem.specs.Actions.{add_trees}
use Rattle.tp_base.proofs.Lists.{some_not_none}
use Rattle.jq_sem.specs.Runs.{IsChange}
use Rattle.jq_sem.proofs.RunLemmas.{edit_changed}
use Rattle.jq_sem.proofs.actions.add_inside.Goals as goal

pub returns : goal.returns
returns c =
    let t = c.args.tree.now in
    let at = c.args.at.now in
    let called = c.add_trees.ensures in
    subst (λ (z : List LabelTree). IsChange t (edit_at at (add_trees z) t) c.add_trees.new.self c.add_trees.result) c.items.ensures
    (edit_changed t (edit_at at (add_trees c.items.result.now) t) c.add_trees.new.self c.add_trees.result called.ok (λ e. some_not_none (node_at at t) c.requires (called.no_such_node.0 e)) (λ e. (called.too_many_nodes.0 e).1) called.in_limit called.err)
