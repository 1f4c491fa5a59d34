use Rattle.std.proofs.Common.{arith}
use Rattle.saturation.proofs.LogLemmas.{filled_apart, filled_whole}
use Rattle.saturation.proofs.histories.HistoryRow.of_ordered.Goals as goal

pub invariant_of-result : goal.invariant_of-result
invariant_of-result c = filled_apart c.args.noted.now c.loop-i.i c.loop-i.atoms.items c.loop-i.changes.items (omega (arith, c.loop-i-test.false)) c.loop-i.invariant c.requires

pub returns : goal.returns
returns c = filled_whole c.args.noted.now c.loop-i.i c.loop-i.atoms.items c.loop-i.changes.items (omega (arith, c.loop-i-test.false)) c.loop-i.invariant
