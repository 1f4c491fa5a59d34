use Rattle.std.proofs.Common.{[], ◌∙◌, refl}
use Rattle.tree_sem.proofs.TableLemmas.{bare_leaf}
use Rattle.tree_sem.proofs.label_tree.Tree.copy.Goals as goal

pub copy_below-requires-clause-bare : goal.copy_below-requires-clause-bare
copy_below-requires-clause-bare c = bare_leaf c.tree.inside.slots c.tree.invariant.forest _ (c.tree.view_is ∙ c.in_ok-tree.ensures)

pub returns : goal.returns
returns c = c.in_ok-copy_below.ensures.ok [] refl ∙ c.self.view_is
