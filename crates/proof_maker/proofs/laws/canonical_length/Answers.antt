use Rattle.proof_maker.proofs.UsedLemmas.{more_entries}
use Rattle.proof_maker.proofs.laws.canonical_length.Goals as goal

pub returns : goal.returns
returns c = more_entries c.args.system.now c.args.page.now c.args.target c.args.proof.now c.args.n c.requires.canonical
