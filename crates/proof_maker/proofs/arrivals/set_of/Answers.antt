use Rattle.proof_maker.proofs.ArrivalLemmas.{union_rises, union_atoms}
use Rattle.proof_maker.proofs.arrivals.set_of.Goals as goal

pub returns-clause-rises : goal.returns-clause-rises
returns-clause-rises c = union_rises c.args.atoms.items c.of.result c.of.ensures

pub returns-clause-atoms : goal.returns-clause-atoms
returns-clause-atoms c = union_atoms c.args.atoms.items c.of.result c.of.ensures
