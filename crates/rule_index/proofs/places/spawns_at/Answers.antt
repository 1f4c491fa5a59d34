use Rattle.std.proofs.Common.{subst}
use Rattle.simple_core.specs.declared.rules.Spawn.{Spawn}
use Rattle.row_index.specs.Rows.{IsNoted}
use Rattle.rule_index.proofs.IndexLemmas.{index_none, index_more}
use Rattle.rule_index.proofs.places.spawns_at.Goals as goal

pub loop-i-init : goal.loop-i-init
loop-i-init c = index_none (λ (c : Spawn). c.needs) c.new-index.result c.new-index.ensures

pub loop-i-preserved : goal.loop-i-preserved
loop-i-preserved c = index_more (λ (c : Spawn). c.needs) c.args.spawns.now c.loop-i.i c.index-spawns-i.result c.loop-i.index c.note.new.self c.loop-i-test.true c.index-spawns-i.is c.loop-i.invariant (subst (λ z. IsNoted c.loop-i.index c.note.new.self z c.loop-i.i) c.needs.view_is c.in_ok-note.ensures.ok)
