use Rattle.proof_maker.proofs.OneLemmas.{one_canonical}
use Rattle.proof_maker.proofs.laws.canonical_is_one.Goals as goal

pub returns : goal.returns
returns c = one_canonical c.args.system.now c.args.page.now c.args.target c.args.proof.now c.args.other.now c.requires.canonical c.requires.other
