use Rattle.html_subset.proofs.NameNotes.{right_interned}
use Rattle.html_subset.proofs.name_table.NameTable.intern.Goals as goal

pub invariant_of-self : goal.invariant_of-self
invariant_of-self c = right_interned c.self.inside.elements _ _ _ c.intern.result c.intern.ensures.ok c.intern.ensures.err c.self.invariant
