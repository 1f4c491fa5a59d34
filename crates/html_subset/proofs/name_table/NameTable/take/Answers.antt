use Rattle.html_subset.proofs.name_table.NameTable.take.Goals as goal

pub invariant_of-self : goal.invariant_of-self
invariant_of-self c = λ q a noted. absurd (c.new.ensures q a noted)
