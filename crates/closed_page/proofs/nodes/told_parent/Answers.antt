use Rattle.std.proofs.Common.{arith}
use Rattle.closed_page.proofs.NodeLemmas.{told_none, told_some}
use Rattle.closed_page.proofs.nodes.told_parent.Goals as goal

pub returns-then-i-eq0 : goal.returns-then-i-eq0
returns-then-i-eq0 c = told_none c.args.numbers.now c.args.i c.if-i-eq0.true

pub returns-else-i-eq0 : goal.returns-else-i-eq0
returns-else-i-eq0 c = told_some c.args.numbers.now c.args.i (omega (arith, c.if-i-eq0.false))
