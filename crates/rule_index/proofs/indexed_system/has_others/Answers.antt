use Rattle.rule_index.proofs.IndexLemmas.{has_more, has_not}
use Rattle.rule_index.proofs.indexed_system.has_others.Goals as goal

pub loop-i-preserved : goal.loop-i-preserved
loop-i-preserved c = has_more c.args.needs.now c.args.label.now c.loop-i.i c.at.result c.has_need.result c.at.ensures c.has_need.ensures c.if-not-has_need.false c.loop-i.invariant

pub returns-then-not-has_need : goal.returns-then-not-has_need
returns-then-not-has_need c = has_not c.args.needs.now c.args.label.now c.loop-i.i c.at.result c.has_need.result c.at.ensures c.has_need.ensures c.if-not-has_need.true
