use Rattle.std.proofs.Common.{take, ◌∙◌}
use Rattle.gathered.proofs.GatheredLemmas.{set_more}
use Rattle.closed_page.proofs.shared_set.add_each.Goals as goal

pub loop-i-preserved : goal.loop-i-preserved
loop-i-preserved c = set_more c.args.set.now c.loop-i.set c.add.new.self c.args.atoms.now c.loop-i.i c.at.result c.at.ensures c.loop-i.invariant c.in_ok-add.ensures.ok

pub returns-in_err-add-clause-longer : goal.returns-in_err-add-clause-longer
returns-in_err-add-clause-longer c = (take c.loop-i.i c.args.atoms.now, c.in_err-add.ensures.err ∙ c.loop-i.invariant)

pub returns-clause-longer : goal.returns-clause-longer
returns-clause-longer c = (take c.loop-i.i c.args.atoms.now, c.loop-i.invariant)
