use Rattle.tree_sem.proofs.TableLemmas.{all_rise}
use Rattle.tree_sem.proofs.label_tree.Tree.count.Goals as goal

pub returns-clause-rise : goal.returns-clause-rise
returns-clause-rise c = rw (← c.self.view_is) (all_rise c.self.inside.slots c.self.invariant.forest)
