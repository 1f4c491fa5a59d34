use Rattle.tree_sem.proofs.ChangeLemmas.{tree_in_limit}
use Rattle.tree_sem.proofs.label_tree.Tree.node.Goals as goal

pub returns-clause-in_limit : goal.returns-clause-in_limit
returns-clause-in_limit c = rw (← c.self.view_is) (tree_in_limit c.self.inside.slots c.self.invariant)
