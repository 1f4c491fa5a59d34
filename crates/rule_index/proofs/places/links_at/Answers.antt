use Rattle.std.proofs.Common.{subst}
use Rattle.simple_core.specs.declared.rules.Link.{Link}
use Rattle.row_index.specs.Rows.{IsNoted}
use Rattle.rule_index.proofs.IndexLemmas.{index_none, index_more}
use Rattle.rule_index.proofs.places.links_at.Goals as goal

pub loop-i-init : goal.loop-i-init
loop-i-init c = index_none (λ (l : Link). l.from) c.new-index.result c.new-index.ensures

pub loop-i-preserved : goal.loop-i-preserved
loop-i-preserved c = index_more (λ (l : Link). l.from) c.args.links.now c.loop-i.i c.index-links-i.result c.loop-i.index c.note.new.self c.loop-i-test.true c.index-links-i.is c.loop-i.invariant (subst (λ z. IsNoted c.loop-i.index c.note.new.self z c.loop-i.i) c.from.view_is c.in_ok-note.ensures.ok)
