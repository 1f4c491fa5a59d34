use Rattle.judge_tests.proofs.OverLemmas.{root_node, root_left}
use Rattle.judge_tests.proofs.checks.is_tree.Goals as goal

pub nodes-init : goal.nodes-init
nodes-init c = record {
  node = root_node c.args.tree.now c.root-at.result c.root-at.ensures;
  left = root_left c.args.n c.args.tree.now c.root-at.result c.root-at.ensures;
}
