use Rattle.jq_read.proofs.WideSteps.{AreWide}
use Rattle.jq_read.proofs.script.wide.Given as goal

abbrev pub invariant-loop-statement : goal.invariant-loop-statement
invariant-loop-statement l = AreWide l.found.items l.statement-iterator.rest.items l.fn.statements.items
