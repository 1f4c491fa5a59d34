use Rattle.proof_maker.proofs.ValidLemmas.{canonical_valid}
use Rattle.proof_maker.proofs.laws.canonical_is_valid.Goals as goal

pub returns : goal.returns
returns c = canonical_valid c.args.system.now c.args.page.now c.args.target c.args.proof.now c.requires.canonical c.requires.sound c.requires.forests
