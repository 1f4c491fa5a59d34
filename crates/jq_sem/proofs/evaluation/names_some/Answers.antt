use Rattle.jq_sem.proofs.TogetherLemmas.{some_named}
use Rattle.jq_sem.proofs.evaluation.names_some.Goals as goal

pub returns-in-Nodes : goal.returns-in-Nodes
returns-in-Nodes c = rw c.in-Nodes.is (some_named c.args.tree.now c.in-Nodes.marks c.is_any.result c.is_any.ensures)
