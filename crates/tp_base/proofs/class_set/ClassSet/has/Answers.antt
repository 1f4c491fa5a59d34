use Rattle.tp_base.proofs.Searches.{search_decides, search_test}
use Rattle.tp_base.proofs.class_set.ClassSet.has.Goals as goal

pub returns-clause-member : goal.returns-clause-member
returns-clause-member c =
    rw (c.is_ok.ensures.value, ← c.self.view_is, ← c.deref.ensures.value)
    (search_decides c.deref.result.now c.args.atom (rw c.deref.ensures.value c.self.invariant) c.binary_search.result c.binary_search.ensures.position)

pub returns-clause-test : goal.returns-clause-test
returns-clause-test c =
    rw (c.is_ok.ensures.value, ← c.self.view_is, ← c.deref.ensures.value)
    (search_test c.deref.result.now c.args.atom (rw c.deref.ensures.value c.self.invariant) c.binary_search.result c.binary_search.ensures.position)
