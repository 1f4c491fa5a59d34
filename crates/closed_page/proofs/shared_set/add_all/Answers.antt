use Rattle.std.proofs.Common.{[]}
use Rattle.closed_page.proofs.shared_set.add_all.Goals as goal

pub returns-in_err-union-clause-longer : goal.returns-in_err-union-clause-longer
returns-in_err-union-clause-longer c = ([], c.in_err-union.ensures.err)

pub returns-clause-longer : goal.returns-clause-longer
returns-clause-longer c = (c.args.atoms.now, c.in_ok-union.ensures.ok)
