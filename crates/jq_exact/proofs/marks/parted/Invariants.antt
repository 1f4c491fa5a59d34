use Rattle.jq_exact.proofs.MarkLemmas.{AreParted}
use Rattle.jq_exact.proofs.marks.parted.Given as goal

abbrev pub invariant-loop-statement : goal.invariant-loop-statement
invariant-loop-statement l = AreParted l.stmts.items l.sharp.items l.statement-iterator.rest.items l.fn.exact.items
