use Rattle.std.proofs.Common.{subst}
use Rattle.row_index.specs.Rows.{IsNoted}
use Rattle.simple_core.specs.declared.rules.Local.{Local}
use Rattle.simple_core.proofs.GiverLemmas.{givers_more}
use Rattle.simple_core.proofs.givers.Givers.of_locals.Goals as goal

pub loop-i-preserved : goal.loop-i-preserved
loop-i-preserved c =
    givers_more (λ (r : Local). r.gives) c.args.rules.now c.loop-i.i c.index-rules-i.result c.loop-i-test.true c.index-rules-i.is c.loop-i.places c.note.new.self
    c.loop-i.invariant (subst (λ (x : Local). IsNoted c.loop-i.places c.note.new.self x.gives c.loop-i.i) c.rule.view_is c.in_ok-note.ensures.ok)
