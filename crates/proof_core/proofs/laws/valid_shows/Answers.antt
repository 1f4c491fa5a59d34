use Rattle.proof_core.proofs.SimpleLemmas.{valid_derives}
use Rattle.proof_core.proofs.laws.valid_shows.Goals as goal

pub returns : goal.returns
returns c = valid_derives c.args.system.now c.args.page.now c.args.proof.now c.args.target c.requires.valid
