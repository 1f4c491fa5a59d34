use Rattle.gathered.proofs.GatheredLemmas.{next_pushed}
use Rattle.gathered.proofs.gathered.push_each.Goals as goal

pub loop-i-preserved : goal.loop-i-preserved
loop-i-preserved c = next_pushed c.args.atoms.now.items c.loop-i.atoms.items c.push.new.self.items c.args.set.now c.loop-i.i c.at.result c.at.ensures c.loop-i.invariant c.in_ok-push.ensures.items
