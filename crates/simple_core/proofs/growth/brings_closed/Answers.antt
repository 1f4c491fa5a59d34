use Rattle.simple_core.proofs.ReachRounds.{closed_got}
use Rattle.simple_core.proofs.growth.brings_closed.Goals as goal

pub returns : goal.returns
returns c v a is closed = closed_got c.args.system.now c.args.page.now v a is closed
