use Rattle.std.proofs.Common.{Err, ap, ◌∙◌}
use Rattle.tp_base.proofs.Lists.{some_not_none}
use Rattle.tree_sem.specs.Trees.{node_at, edit_at}
use Rattle.tree_sem.specs.Actions.{add_classes}
use Rattle.jq_sem.proofs.RunLemmas.{changed_ok, changed_err}
use Rattle.jq_sem.proofs.actions.add_classes.Goals as goal

pub returns-in-Ok : goal.returns-in-Ok
returns-in-Ok c =
    changed_ok c.args.tree.now (edit_at c.args.at.now (add_classes c.args.classes.now) c.args.tree.now) c.add_classes.new.self (rw c.in-Ok.is at c.add_classes.ensures.ok) c.add_classes.ensures.in_limit

pub returns-in-Err : goal.returns-in-Err
returns-in-Err c =
    let called = c.add_classes.ensures in
    changed_err c.args.tree.now (edit_at c.args.at.now (add_classes c.args.classes.now) c.args.tree.now) c.add_classes.new.self c.in-Err.fault
    (λ e. some_not_none (node_at c.args.at.now c.args.tree.now) c.requires (called.no_such_node.0 (c.in-Err.is ∙ ap Err e))) (λ e. absurd (called.too_many_nodes (c.in-Err.is ∙ ap Err e))) (rw c.in-Err.is at called.err)
