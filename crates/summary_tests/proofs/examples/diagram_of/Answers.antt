use Rattle.summary_tests.proofs.examples.diagram_of.Goals as goal

pub returns-in-Fixed-clause-inside : goal.returns-in-Fixed-clause-inside
returns-in-Fixed-clause-inside c = c.leaf.ensures.inside c.args.d.now.branches
