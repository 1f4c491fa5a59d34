use Rattle.std.proofs.Common.{refl, arith}
use Rattle.rule_index.proofs.IndexLemmas.{rule_free, rule_needs, no_needs}
use Rattle.rule_index.proofs.places.note_rule.Goals as goal

pub returns-then-len-eq0 : goal.returns-then-len-eq0
returns-then-len-eq0 c = rule_free c.args.index.now c.note.new.self c.args.needs.now c.args.place 0 (no_needs c.args.needs.now c.len.result c.len.ensures.count (omega (arith, c.if-len-eq0.true))) refl c.in_ok-note.ensures.ok

pub returns : goal.returns
returns c = rule_needs c.args.index.now c.note_needs.new.index c.args.needs.now c.args.place c.len.result c.len.ensures.count c.if-len-eq0.false c.in_ok-note_needs.ensures
