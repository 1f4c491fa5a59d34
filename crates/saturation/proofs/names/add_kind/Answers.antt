use Rattle.saturation.proofs.NameLemmas.{named_more}
use Rattle.saturation.proofs.names.add_kind.Goals as goal

pub loop-i-preserved : goal.loop-i-preserved
loop-i-preserved c =
    named_more c.args.cells.now.items c.loop-i.cells.items c.push.new.self.items c.args.kind c.args.atoms.now c.loop-i.i c.at.result c.at.ensures
    c.loop-i.invariant c.in_ok-push.ensures.items
