use Rattle.std.proofs.Common.{◌-◌, arith}
use Rattle.guard_simplify.proofs.PathEnds.{last_at}
use Rattle.guard_simplify.proofs.kinds.number_at.Goals as goal

pub returns : goal.returns
returns c = last_at c.args.at.now (c.len-2.result - 1) c.at.result (omega (arith, c.len.ensures, c.len-2.ensures, c.if-len-eq0.false)) c.at.ensures
