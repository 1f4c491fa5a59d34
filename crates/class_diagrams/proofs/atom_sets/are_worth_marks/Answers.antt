use Rattle.class_diagrams.proofs.MarkLemmas.{worth}
use Rattle.class_diagrams.proofs.atom_sets.are_worth_marks.Goals as goal

pub returns : goal.returns
returns c = worth c.args.set.now c.args.looks c.numbers_of.result c.saturating_sub.result c.numbers_of.ensures.all c.numbers_of.ensures.least c.saturating_sub.ensures
