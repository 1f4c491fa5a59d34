use Rattle.std.proofs.Common.{sym}
use Rattle.tree_sem.proofs.TableLemmas.{child_number}
use Rattle.tree_sem.proofs.tree_builder.TreeBuilder.add_child.Goals as goal

pub returns-clause-number : goal.returns-clause-number
returns-clause-number c =
    rw (← c.self.view_is) (child_number c.self.inside.slots c.self.invariant.table.forest c.self.inside.at c.self.inside.place (sym c.self.invariant.here) c.add_last.result c.add_last.ensures.number)
