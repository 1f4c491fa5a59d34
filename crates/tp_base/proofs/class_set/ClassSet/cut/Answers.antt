use Rattle.std.proofs.Common.{arith}
use Rattle.std.proofs.lemmas.Grind.{common_steps}
use Rattle.tp_base.proofs.ClassLemmas.{IsStrictlyIncreasing-cut_to}
use Rattle.tp_base.proofs.class_set.ClassSet.cut.Goals as goal

pub returns : goal.returns
returns c = grind (arith, common_steps)

pub invariant_of-self : goal.invariant_of-self
invariant_of-self c = rw (returns c) (IsStrictlyIncreasing-cut_to c.args.other.now c.args.self.now (rw (← c.self.view_is) c.self.invariant))
