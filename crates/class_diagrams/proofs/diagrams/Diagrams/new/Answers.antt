use Rattle.class_diagrams.proofs.Remembering.{nothing_remembered}
use Rattle.class_diagrams.proofs.diagrams.Diagrams.new.Goals as goal

pub invariant_of-result : goal.invariant_of-result
invariant_of-result c = nothing_remembered c.new-table.result c.in_ok-memo.memo c.new-variables.result c.new-table.ensures.arena c.in_ok-memo.ensures c.new-variables.ensures
