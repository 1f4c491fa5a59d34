use Rattle.tp_base.proofs.Walks.{seek_test, seek_same}
use Rattle.tp_base.proofs.class_set.seek.Goals as goal

pub returns-clause-test : goal.returns-clause-test
returns-clause-test c =
    rw (c.eq.ensures, c.copied.ensures, c.first.ensures.value, c.split_at.ensures.back, c.count_smaller.ensures.count)
    (seek_test c.args.atom c.args.atoms.now c.requires)

pub returns-clause-same : goal.returns-clause-same
returns-clause-same c = λ x le.
    rw (c.split_at.ensures.back, c.count_smaller.ensures.count) (seek_same c.args.atom c.args.atoms.now x le)
