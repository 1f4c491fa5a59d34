use Rattle.tp_base.proofs.Lists.{Contains-at}
use Rattle.rule_index.proofs.IndexLemmas.{rarer_need}
use Rattle.rule_index.proofs.places.rarest.Goals as goal

pub loop-i-init : goal.loop-i-init
loop-i-init c = Contains-at c.args.needs.now 0 c.at-best.result c.at-best.ensures

pub loop-i-preserved : goal.loop-i-preserved
loop-i-preserved c = rarer_need c.args.needs.now c.loop-i.best c.at.result c.rarer-best.result c.loop-i.i c.loop-i.invariant c.at.ensures c.rarer-best.ensures
