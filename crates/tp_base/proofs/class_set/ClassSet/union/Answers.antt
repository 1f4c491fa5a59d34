use Rattle.std.proofs.Common.{sym}
use Rattle.tp_base.proofs.ClassLemmas.{union_of-within, IsStrictlyIncreasing-union_of}
use Rattle.tp_base.proofs.class_set.ClassSet.union.Goals as goal

pub returns-then-within-clause-ok : goal.returns-then-within-clause-ok
returns-then-within-clause-ok c =
    sym (union_of-within c.args.self.now c.args.other.now (rw (← c.self.view_is) c.self.invariant) (c.within.ensures.members.0 c.if-within.true))

pub invariant_of-self : goal.invariant_of-self
invariant_of-self c =
    rw c.in_ok-self-inside.ensures (IsStrictlyIncreasing-union_of c.deref.result.now c.deref-2.result.now (rw c.deref.ensures.value c.self.invariant))
