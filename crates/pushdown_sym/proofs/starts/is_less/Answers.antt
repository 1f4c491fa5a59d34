use Rattle.pushdown_sym.proofs.StartLemmas.{less_there, other_there}
use Rattle.pushdown_sym.proofs.starts.is_less.Goals as goal

pub returns-in-Some-clause-less : goal.returns-in-Some-clause-less
returns-in-Some-clause-less c = λ passes. less_there c.args.number c.args.atoms.now c.args.place c.in-Some.other.now c.other.inside.0 c.in-Some.ensures.lookup.0 c.in-Some.ensures.lookup.1 c.other.view_is passes

pub returns-in-Some-clause-other : goal.returns-in-Some-clause-other
returns-in-Some-clause-other c = λ fails within. other_there c.args.number c.args.atoms.now c.args.place c.in-Some.other.now c.other.inside.0 c.in-Some.ensures.lookup.1 c.other.view_is fails within
