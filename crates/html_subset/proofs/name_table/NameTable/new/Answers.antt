use Rattle.html_subset.proofs.name_table.NameTable.new.Goals as goal

pub invariant_of-result : goal.invariant_of-result
invariant_of-result c = λ q a noted. absurd (c.new.ensures q a noted)
