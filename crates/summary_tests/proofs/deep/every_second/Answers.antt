use Rattle.summary_tests.proofs.deep.every_second.Goals as goal

pub atoms-init : goal.atoms-init
atoms-init c = (c.leaf-sofar.ensures.inside c.args.d.now.branches, λ p there. there)

pub atoms-preserved : goal.atoms-preserved
atoms-preserved c = (c.in_ok-sofar.ensures.inside, λ p there. (c.in_ok-sofar.ensures.references p (c.in_ok-one.ensures.references p (c.atoms.invariant.1 p there)).0).0)
