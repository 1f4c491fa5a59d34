use Rattle.proof_needs.proofs.KeyLemmas.{same_test}
use Rattle.proof_needs.proofs.spots.is_same.Goals as goal

pub returns : goal.returns
returns c = same_test c.same_atoms.result c.args.first.now c.args.second.now c.same_atoms.ensures
