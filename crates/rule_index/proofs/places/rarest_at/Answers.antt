use Rattle.rule_index.proofs.IndexLemmas.{rare_none, rare_more}
use Rattle.rule_index.proofs.places.rarest_at.Goals as goal

pub loop-i-init : goal.loop-i-init
loop-i-init c = rare_none c.new-rare.result

pub loop-i-preserved : goal.loop-i-preserved
loop-i-preserved c = rare_more c.args.rules.now c.loop-i.i c.index-rules-i.result c.loop-i.rare c.note.new.self c.rarest_key-key.result c.loop-i-test.true c.index-rules-i.is c.loop-i.invariant c.rarest_key-key.ensures c.in_ok-note.ensures.ok
