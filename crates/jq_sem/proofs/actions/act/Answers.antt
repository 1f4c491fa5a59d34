use Rattle.std.proofs.Common.{refl}
use Rattle.tp_base.proofs.Lists.{some_not_none}
use Rattle.tree_sem.specs.Trees.{node_at}
use Rattle.tree_sem.specs.Actions as spec
use Rattle.jq_sem.proofs.SetLemmas.{so, not_so}
use Rattle.jq_sem.proofs.RunLemmas.{not_there, change_ok, change_no_such, change_many, change_full, change_fits, change_err}
use Rattle.jq_sem.proofs.actions.act.Goals as goal

pub returns-then-not-is_node-clause-no_such_node : goal.returns-then-not-is_node-clause-no_such_node
returns-then-not-is_node-clause-no_such_node c = (λ _. not_there (node_at c.args.at.now c.args.tree.now) (not_so c.is_node.result c.is_node.ensures.test c.if-not-is_node.true), λ _. refl)

pub returns-then-not-is_node-clause-full : goal.returns-then-not-is_node-clause-full
returns-then-not-is_node-clause-full c is many = absurd (not_so c.is_node.result c.is_node.ensures.test c.if-not-is_node.true is)

pub returns-clause-ok : goal.returns-clause-ok
returns-clause-ok c = change_ok c.args.tree.now (spec.act c.args.s.now.action c.args.at.now c.args.tree.now) c.act_at.new.tree c.act_at.result c.act_at.ensures

pub returns-clause-no_such_node : goal.returns-clause-no_such_node
returns-clause-no_such_node c =
    let node = so c.is_node.result c.is_node.ensures.test c.if-not-is_node.false in (
      λ e. absurd (change_no_such c.args.tree.now (spec.act c.args.s.now.action c.args.at.now c.args.tree.now) c.act_at.new.tree c.act_at.result c.act_at.ensures e),
      λ none. absurd (some_not_none (node_at c.args.at.now c.args.tree.now) node none),
    )

pub returns-clause-too_many_nodes : goal.returns-clause-too_many_nodes
returns-clause-too_many_nodes c e = (so c.is_node.result c.is_node.ensures.test c.if-not-is_node.false, change_many c.args.tree.now (spec.act c.args.s.now.action c.args.at.now c.args.tree.now) c.act_at.new.tree c.act_at.result c.act_at.ensures e)

pub returns-clause-full : goal.returns-clause-full
returns-clause-full c node many = change_full c.args.tree.now (spec.act c.args.s.now.action c.args.at.now c.args.tree.now) c.act_at.new.tree c.act_at.result c.is_node.ensures.in_limit c.act_at.ensures many

pub returns-clause-fits : goal.returns-clause-fits
returns-clause-fits c = change_fits c.args.tree.now (spec.act c.args.s.now.action c.args.at.now c.args.tree.now) c.act_at.new.tree c.act_at.result c.is_node.ensures.in_limit c.act_at.ensures

pub returns-clause-err : goal.returns-clause-err
returns-clause-err c = change_err c.args.tree.now (spec.act c.args.s.now.action c.args.at.now c.args.tree.now) c.act_at.new.tree c.act_at.result c.act_at.ensures
