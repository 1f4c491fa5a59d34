use Rattle.proof_core.specs.Readings.{Reading, read_by}
use Rattle.proof_core.proofs.UnfoldLemmas.{unfolded_is_right}
use Rattle.proof_core.proofs.laws.unfolding_is_right.Goals as goal

pub returns : goal.returns
returns g c =
    let r = g.R.Reading in
    let reading : Reading = read_by c.args.system.now r.kind_tree r.legal r.after r.means c.args.target r.found in
    let right = unfolded_is_right reading c.args.page.now c.requires.reading c.args.proof.now c.requires.valid in
    record { legal = right.0; found = right.1 }
