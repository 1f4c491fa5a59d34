use Rattle.std.proofs.Common.{subst}
use Rattle.row_index.specs.Rows.{IsNoted}
use Rattle.simple_core.specs.declared.rules.Link.{Link}
use Rattle.simple_core.proofs.GiverLemmas.{givers_more}
use Rattle.simple_core.proofs.givers.Givers.of_links.Goals as goal

pub loop-i-preserved : goal.loop-i-preserved
loop-i-preserved c =
    givers_more (λ (r : Link). r.to) c.args.links.now c.loop-i.i c.index-links-i.result c.loop-i-test.true c.index-links-i.is c.loop-i.places c.note.new.self
    c.loop-i.invariant (subst (λ (x : Link). IsNoted c.loop-i.places c.note.new.self x.to c.loop-i.i) c.link.view_is c.in_ok-note.ensures.ok)
