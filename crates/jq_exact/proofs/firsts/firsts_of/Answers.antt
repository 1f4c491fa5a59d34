use Rattle.jq_sem.proofs.SetLemmas.{on_ok}
use Rattle.jq_exact.proofs.FirstLemmas.{with_none, without_none}
use Rattle.jq_exact.proofs.firsts.firsts_of.Goals as goal

pub node-requires : goal.node-requires
node-requires c = (c.is_node.ensures.0 c.if-is_node.true).1

pub returns-then-is_node : goal.returns-then-is_node
returns-then-is_node c =
    on_ok c.in_either.result _ _ (λ m made. with_none c.args.tree.now c.args.least.now.ranks c.args.least.now.of_none c.args.marks.now c.in_ok-reached.reached c.in_ok-one.one m c.args.none (c.is_node.ensures.0 c.if-is_node.true) c.in_ok-reached.ensures c.in_ok-one.ensures made)
    c.in_either.ensures

pub returns : goal.returns
returns c = without_none c.args.tree.now c.args.least.now.ranks c.args.least.now.of_none c.args.marks.now c.in_ok-reached.reached c.args.none c.is_node.result c.if-is_node.false c.is_node.ensures c.in_ok-reached.ensures
