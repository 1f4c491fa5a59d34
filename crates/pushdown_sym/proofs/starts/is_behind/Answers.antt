use Rattle.std.proofs.Common.{arith}
use Rattle.pushdown_sym.proofs.starts.is_behind.Goals as goal

pub returns-in-Some-clause-other : goal.returns-in-Some-clause-other
returns-in-Some-clause-other c = λ fails. (c.in-Some.last, omega arith, λ within. c.is_less.ensures.other fails within)
