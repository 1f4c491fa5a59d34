use Rattle.rule_index.proofs.IndexLemmas.{has_more, has_not}
use Rattle.rule_index.proofs.indexed_system.has_each.Goals as goal

pub loop-i-preserved : goal.loop-i-preserved
loop-i-preserved c = has_more c.args.needs.now c.args.label.now c.loop-i.i c.at.result c.has.result c.at.ensures c.has.ensures.test c.if-not-has.false c.loop-i.invariant

pub returns-then-not-has : goal.returns-then-not-has
returns-then-not-has c = has_not c.args.needs.now c.args.label.now c.loop-i.i c.at.result c.has.result c.at.ensures c.has.ensures.test c.if-not-has.true
