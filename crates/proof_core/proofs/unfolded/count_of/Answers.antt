use Rattle.proof_core.proofs.unfolded.count_of.Goals as goal

pub returns : goal.returns
returns c = c.steps.ensures c.args.page.now c.args.target
