use Rattle.std.proofs.Common.{◌+◌, ap}
use Rattle.rule_index.proofs.IndexLemmas.{needs_more}
use Rattle.rule_index.proofs.places.note_needs.Goals as goal

pub loop-i-preserved : goal.loop-i-preserved
loop-i-preserved c = needs_more c.args.index.now c.loop-i.index c.note.new.self c.args.needs.now c.args.place c.loop-i.i c.at-atom.result (c.atom.inside.0 + 1) c.at-atom.ensures (ap (λ z. z + 1) c.atom.view_is) c.loop-i.invariant c.in_ok-note.ensures.ok
