use Rattle.rule_index.proofs.IndexLemmas.{locals_none, locals_more}
use Rattle.rule_index.proofs.places.locals_at.Goals as goal

pub loop-i-init : goal.loop-i-init
loop-i-init c = locals_none c.new-index.result

pub loop-i-preserved : goal.loop-i-preserved
loop-i-preserved c = locals_more c.args.rules.now c.loop-i.i c.index-rules-i.result c.loop-i.index c.note_rule.new.index c.loop-i-test.true c.index-rules-i.is c.loop-i.invariant c.in_ok-note_rule.ensures
